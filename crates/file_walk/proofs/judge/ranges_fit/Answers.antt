-- `file_walk::judge::ranges_fit` meets its contract. Assumes nothing.
use Rattle.shape.proofs.Fits.{degrees_product}
use Rattle.shape.proofs.HeaderLaws.{degree_range}
use Rattle.file_walk.proofs.WholeLaws.{said_s, said_r, said_height, said_levels, said_count, said_labels}
use Rattle.file_walk.proofs.judge.ranges_fit.Goals as goal

pub returns-then-not-degree_fits : goal.returns-then-not-degree_fits
returns-then-not-degree_fits c = λ ws said. said_s said c.degree_fits.ensures c.if-not-degree_fits.true-raw

pub returns-then-not-degree_fits-2 : goal.returns-then-not-degree_fits-2
returns-then-not-degree_fits-2 c = λ ws said. said_r said c.degree_fits-2.ensures c.if-not-degree_fits-2.true-raw

pub returns-then-h-lt1 : goal.returns-then-h-lt1
returns-then-h-lt1 c = λ ws said. said_height said c.if-h-lt1.true

pub returns-then-h-gt-MOST_LEVELS : goal.returns-then-h-gt-MOST_LEVELS
returns-then-h-gt-MOST_LEVELS c = λ ws said. said_levels said c.if-h-gt-MOST_LEVELS.true

pub returns-then-header-gt-MOST_TAGS : goal.returns-then-header-gt-MOST_TAGS
returns-then-header-gt-MOST_TAGS c = λ ws said. said_count said c.if-header-gt-MOST_TAGS.true

pub height_fits-requires : goal.height_fits-requires
height_fits-requires c =
    let s = degree_range _ c.degree_fits.ensures c.if-not-degree_fits.false-raw in
    let r = degree_range _ c.degree_fits-2.ensures c.if-not-degree_fits-2.false-raw in
    degrees_product s.0 s.1 r.0 r.1

pub returns : goal.returns
returns c =
    λ ws said. said_labels said c.degree_fits.ensures c.if-not-degree_fits.false-raw c.degree_fits-2.ensures c.if-not-degree_fits-2.false-raw c.if-h-lt1.false c.if-h-gt-MOST_LEVELS.false c.if-header-gt-MOST_TAGS.false
    c.height_fits.ensures
