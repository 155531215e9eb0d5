-- `shape::frame_passes` meets its contract. Assumes nothing.
use Rattle.shape.proofs.Fits.{degrees_product}
use Rattle.shape.proofs.HeaderLaws.{degree_range, frame_short, frame_version, frame_s, frame_r, frame_height, frame_levels, frame_count, frame_words, frame_labels}
use Rattle.shape.proofs.frame_passes.Goals as goal

pub returns-then-words-lt-HEADER_WORDS : goal.returns-then-words-lt-HEADER_WORDS
returns-then-words-lt-HEADER_WORDS c = frame_short _ c.if-words-lt-HEADER_WORDS.true

pub returns-then-words-ne-VERSION : goal.returns-then-words-ne-VERSION
returns-then-words-ne-VERSION c = frame_version _ c.if-words-ne-VERSION.true

pub returns-then-not-degree_fits : goal.returns-then-not-degree_fits
returns-then-not-degree_fits c = frame_s _ c.degree_fits.ensures c.if-not-degree_fits.true-raw

pub returns-then-not-degree_fits-2 : goal.returns-then-not-degree_fits-2
returns-then-not-degree_fits-2 c = frame_r _ c.degree_fits-2.ensures c.if-not-degree_fits-2.true-raw

pub returns-then-h-lt1 : goal.returns-then-h-lt1
returns-then-h-lt1 c = frame_height _ c.if-h-lt1.true

pub returns-then-h-gt-MOST_LEVELS : goal.returns-then-h-gt-MOST_LEVELS
returns-then-h-gt-MOST_LEVELS c = frame_levels _ c.if-h-gt-MOST_LEVELS.true

pub returns-then-n-gt-MOST_TAGS : goal.returns-then-n-gt-MOST_TAGS
returns-then-n-gt-MOST_TAGS c = frame_count _ c.if-n-gt-MOST_TAGS.true

pub returns-then-words-words_for : goal.returns-then-words-words_for
returns-then-words-words_for c = frame_words _ (rw c.words_for.ensures at c.if-words-words_for.true)

pub height_fits-requires : goal.height_fits-requires
height_fits-requires c =
    let s = degree_range _ c.degree_fits.ensures c.if-not-degree_fits.false-raw in
    let r = degree_range _ c.degree_fits-2.ensures c.if-not-degree_fits-2.false-raw in
    degrees_product s.0 s.1 r.0 r.1

pub returns : goal.returns
returns c =
    frame_labels _ c.if-words-lt-HEADER_WORDS.false c.if-words-ne-VERSION.false c.degree_fits.ensures
    c.if-not-degree_fits.false-raw c.degree_fits-2.ensures c.if-not-degree_fits-2.false-raw c.if-h-lt1.false c.if-h-gt-MOST_LEVELS.false c.if-n-gt-MOST_TAGS.false
    (rw c.words_for.ensures at c.if-words-words_for.false) c.height_fits.ensures
