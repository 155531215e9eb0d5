-- The specimens of specs/Specimens.antt hold: the checker computes the whole table. Assumes nothing.
use mathlib.Core.Path.{◌≡◌, refl}
use mathlib.Core.Bool.{true}
use Rattle.lists.specs.Lists.{first, same, all_hold}
use Rattle.lists.specs.Fronts.{starts_with, in_front, replied, written}
use Rattle.xml.specs.Bytes.{is_char, is_space, is_name_start, is_name_char}
use Rattle.xml.specs.Grammar.{reference_text, is_quote, among, brackets_after, tail_of, refused_opener}
use Rattle.xml.specs.Scan.{run, name_length, reference_length, later, body_length, value_step, value_length, sized, attribute_at, ends_later, tail_on, tail_at, sized_tag, tag_at}
use Rattle.xml.specs.Reader.{cdata_step, comment_step, end_step, tag_step, markup_step, reference_step, datum_step, next, used, past, of_text, gives, preceded, reading, at_end, read_from, read_sheet}
use Rattle.xml.specs.Replies.{sheet_refusal, kinds_in, sheet_reply, sheet_list}
use Rattle.store_types.specs.Replies.{count_numbers}
use Rattle.xml.specs.Specimens.{answers, specimen_holds, many, deep, specimen_table}

pub specimens : all_hold specimen_holds specimen_table ≡ true
unfolding first same all_hold starts_with in_front replied written is_char is_space is_name_start is_name_char reference_text is_quote among brackets_after tail_of run name_length reference_length later body_length value_step value_length sized attribute_at ends_later tail_on tail_at sized_tag tag_at cdata_step comment_step end_step tag_step refused_opener markup_step reference_step datum_step next used past of_text gives preceded reading at_end read_from read_sheet sheet_refusal kinds_in sheet_reply sheet_list count_numbers answers specimen_holds many deep
specimens = refl
