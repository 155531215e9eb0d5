-- The files of specs/FileSpecimens.antt: the checker computes the whole table. Assumes nothing.
use mathlib.Core.Path.{◌≡◌, refl}
use mathlib.Core.Bool.{true}
use mathlib.Core.List.{head_d, flat_map}
use Rattle.store_types.specs.Replies.{count_numbers}
use Rattle.lists.specs.Lists.{how_many, first, same, all_hold, numbers}
use Rattle.lists.specs.Fronts.{starts_with, in_front, written, replied}
use Rattle.store_types.specs.Layout.{records_at, words_for, field, label_at}
use Rattle.little_endian.specs.Numbers.{is_byte, low_first, number_in}
use Rattle.tree.specs.Row.{member, place, insert_at, all_below}
use Rattle.tree.specs.Forest.{leaves, labels, joined, leaf_row, parts, spread, put, split_height, within_limits}
use Rattle.tree.specs.Book.{label_of, base, power_width, under_from, load_under, loaded, root_full, root_split, put_inside, inserted, split_of, inserted_row, root_within, book_within}
use Rattle.tree.specs.Spelling.{front_below, spelled_nodes, spelled}
use Rattle.calls.specs.Kind.{code, is_kind, kind_of, kind_word, word_kind, own_depth, opens_after, depth_after, is_begin, is_end}
use Rattle.calls.specs.Store.{labels_fit, next_in, prior_in}
use Rattle.calls.specs.Nesting.{nests, closing, new_facts, fits, opened, nested, depths_right}
use Rattle.calls.specs.Sound.{degrees_fit, tree_sound, row_sound, stamp_sound, sound}
use Rattle.calls.specs.Load.{all_kinds, kinds_tests, early_tests, load_refusal, load_store}
use Rattle.calls.specs.Insert.{insert_kinds, position, up_at, depth_at, book_after, insert_store, labels_end, place_tests, room_tests, insert_refusal}
use Rattle.calls.specs.Words.{header, tag_record, words_of, follow, read_fact, header_width, read_book, read_store, header_in_range, read_in_range, read}
use Rattle.calls.specs.File.{file_record, form, tag_row, file_of, words_in, header_in, count_in, begins, tags_formed, formed_at, formed, rows_from, rows_in, deepened, record_in, file_words, own_file, read_formed, read_file}
use Rattle.calls.specs.Replies.{on_store, refusal_over, store_or, said, load_words, insert_refused, insert_words, load_numbers, write_refusal, write_refused, write_reply, write_bytes, file_refusal, read_reply, read_words}
use Rattle.calls.specs.FileSpecimens.{filings_hold, file_specimen_holds, file_specimen_table}

pub file_specimens : all_hold file_specimen_holds file_specimen_table ≡ true
unfolding head_d numbers member place insert_at all_below leaves labels joined leaf_row parts spread put split_height within_limits label_of base power_width under_from load_under loaded root_full root_split put_inside inserted split_of inserted_row root_within book_within front_below spelled_nodes spelled first same code is_kind kind_of kind_word word_kind own_depth opens_after depth_after is_begin is_end next_in prior_in labels_fit how_many nests closing new_facts fits opened nested depths_right degrees_fit tree_sound row_sound stamp_sound sound words_for all_kinds kinds_tests early_tests load_refusal load_store insert_kinds position up_at depth_at book_after insert_store labels_end place_tests room_tests insert_refusal header tag_record flat_map words_of records_at field follow read_fact label_at header_width read_book read_store starts_with header_in_range read_in_range read in_front is_byte low_first number_in file_record form tag_row file_of words_in header_in count_in begins tags_formed formed_at formed rows_from rows_in deepened record_in file_words own_file read_formed read_file on_store refusal_over store_or said written replied load_words insert_refused insert_words load_numbers write_refusal write_refused write_reply write_bytes count_numbers file_refusal read_reply read_words filings_hold file_specimen_holds all_hold
file_specimens = refl
