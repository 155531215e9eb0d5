-- The depths of specs/DepthSpecimens.antt: the checker computes the whole table. Assumes nothing.
use mathlib.Core.Path.{◌≡◌, refl}
use mathlib.Core.Bool.{true}
use mathlib.Core.List.{head_d, flat_map}
use Rattle.store_types.specs.Replies.{count_numbers}
use Rattle.lists.specs.Lists.{how_many, first, same, all_hold, numbers}
use Rattle.lists.specs.Fronts.{starts_with, in_front, written, replied}
use Rattle.store_types.specs.Layout.{records_at, words_for, field, label_at, with_field}
use Rattle.tree.specs.Row.{member, place, insert_at, all_below}
use Rattle.tree.specs.Forest.{leaves, labels, joined, leaf_row, parts, spread, put, split_height, within_limits}
use Rattle.tree.specs.Book.{label_of, base, power_width, under_from, load_under, loaded, root_full, root_split, put_inside, inserted, split_of, inserted_row, split_of_row, moved_among, root_within, book_within}
use Rattle.tree.specs.Spelling.{front_below, spelled_nodes, spelled}
use Rattle.calls.specs.Kind.{code, is_kind, kind_of, kind_word, word_kind, own_depth, opens_after, depth_after, is_begin, is_end}
use Rattle.calls.specs.Store.{labels_fit, next_in, prior_in}
use Rattle.calls.specs.Nesting.{nests, closing, new_facts, fits, opened, nested, depths_right}
use Rattle.calls.specs.Sound.{degrees_fit, tree_sound, row_sound, stamp_sound, sound}
use Rattle.calls.specs.Load.{all_kinds, kinds_tests, early_tests, load_refusal, load_store}
use Rattle.calls.specs.Insert.{insert_kinds, position, up_at, depth_at, book_after, insert_store, insert_moved, insert_split, raised, labels_end, labels_run_out, place_tests, room_tests, insert_refusal, row_refusal, insert_sheet_refusal, insert_sheet_store}
use Rattle.calls.specs.Mark.{within, mark_facts, mark_store, new_marks, mark_count, section_tests, section_refusal}
use Rattle.calls.specs.Held.{hold_pair}
use Rattle.calls.specs.Words.{header, tag_record, words_of, follow, read_fact, header_width, read_book, read_store, header_in_range, read_in_range, read}
use Rattle.calls.specs.Replies.{on_store, refusal_over, store_or, said, load_reply, load_words, insert_refused, insert_reply, insert_words, insert_sheet_refused, insert_sheet_reply, insert_sheet_words, mark_reply, mark_words, hold_reply, load_numbers, insert_numbers, hold_numbers}
use Rattle.calls.specs.SheetSpecimens.{fields_hold}
use Rattle.calls.specs.DepthSpecimens.{depth_fails, depth_alone, deeds_hold, depth_specimen_holds, depth_specimen_table}

pub depth_specimens : all_hold depth_specimen_holds depth_specimen_table ≡ true
unfolding head_d numbers member place insert_at all_below leaves labels joined leaf_row parts spread put split_height within_limits label_of base power_width under_from load_under loaded root_full root_split put_inside inserted split_of inserted_row split_of_row moved_among root_within book_within front_below spelled_nodes spelled first same how_many code is_kind kind_of kind_word word_kind own_depth opens_after depth_after is_begin is_end next_in prior_in labels_fit nests closing new_facts fits opened nested depths_right degrees_fit tree_sound row_sound stamp_sound sound words_for all_kinds kinds_tests early_tests load_refusal load_store insert_kinds position up_at depth_at book_after insert_store insert_moved insert_split raised labels_end labels_run_out place_tests room_tests insert_refusal row_refusal insert_sheet_refusal insert_sheet_store within mark_facts mark_store new_marks mark_count section_tests section_refusal hold_pair header tag_record flat_map words_of records_at field follow read_fact label_at with_field header_width read_book read_store starts_with header_in_range read_in_range read in_front on_store refusal_over store_or said written replied load_reply load_words insert_refused insert_reply insert_words insert_sheet_refused insert_sheet_reply insert_sheet_words mark_reply mark_words hold_reply load_numbers insert_numbers count_numbers hold_numbers fields_hold depth_fails depth_alone deeds_hold depth_specimen_holds all_hold
depth_specimens = refl
