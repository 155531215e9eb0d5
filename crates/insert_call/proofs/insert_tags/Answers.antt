-- `insert_call::insert_tags` meets its contract: what it leaves and replies is what the definitions say. Assumes nothing.
use mathlib.Core.Path.{sym}
use Rattle.insert_call.proofs.Replies.{accepted_all}
use Rattle.insert_call.proofs.insert_tags.Goals as goal

pub returns : goal.returns
returns c =
    let all = accepted_all c.requires.0 c.change-done.ensures c.count_of-n.ensures c.stamp_of-stamp.ensures c.set_stamp.ensures in record { reply = sym all.0; words = all.1 }
