-- `file_write::put_file` meets its contract: its records one behind the other are the file. Assumes nothing.
use mathlib.Core.Path.{◌∙◌}
use native.Mathlib.Omega.{arith}
use Rattle.calls.specs.Replies.{said}
use Rattle.calls_laws.proofs.WordSteps.{header_said}
use Rattle.store_refuse.proofs.Laws.{header_room}
use Rattle.file_write.proofs.WriteReplies.{sound_of, file_stored}
use Rattle.file_write.proofs.put_file.Goals as goal

pub count_of-n-requires : goal.count_of-n-requires
count_of-n-requires c = header_room _ c.requires.says

pub returns : goal.returns
returns c =
    record {
      count = omega (arith, c.put_tags-at.ensures.place);
      bytes = file_stored (said c.args.words.now) c.args.bytes.now (sound_of c.args.words.now c.requires.says) c.requires.room c.put_header.ensures c.put_tags-at.ensures.bytes c.put_tags-at.ensures.place
          (c.count_of-n.ensures ∙ (header_said c.args.words.now (said c.args.words.now) c.requires.says).issued) c.put_end.ensures;
    }
