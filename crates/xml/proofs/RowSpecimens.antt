-- The rows of specs/RowSpecimens.antt hold: the checker computes the whole table. Assumes nothing.
use mathlib.Core.Path.{◌≡◌, refl}
use mathlib.Core.Bool.{true}
use Rattle.lists.specs.Lists.{same, all_hold}
use Rattle.lists.specs.Fronts.{starts_with}
use Rattle.xml.specs.Bytes.{is_char, is_space, is_name_start, is_name_char, contains}
use Rattle.xml.specs.Grammar.{is_name, is_blank, is_gap, is_reference, reference_text, value_text, is_value, is_quote, bare_text, attribute_text, is_attribute, attributes_text, among, names_of, are_attributes, tag_text, is_tag, text_of, texts, is_construct, brackets_after, closes, may_stand, tail_of, place_after, all_stand, place_after_all, kinds_from}
use Rattle.xml.specs.RowSpecimens.{none_open, row_holds, row_table}

pub row_specimens : all_hold row_holds row_table ≡ true
unfolding same all_hold starts_with is_char is_space is_name_start is_name_char contains is_name is_blank is_gap is_reference reference_text value_text is_value is_quote bare_text attribute_text is_attribute attributes_text among names_of are_attributes tag_text is_tag text_of texts is_construct brackets_after closes may_stand tail_of place_after all_stand place_after_all kinds_from none_open row_holds
row_specimens = refl
