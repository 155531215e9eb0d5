-- `rights_c::vk_party_call` meets its contract, by those of the functions that it calls. Assumes nothing.
use Rattle.c_replies.specs.Flat.{act_of}
use Rattle.rights_c.proofs.GrantLaws.{acted}
use Rattle.rights_c.proofs.vk_party_call.Goals as goal

pub returns : goal.returns
returns c =
    let a = act_of c.args.book c.args.tag c.args.start c.args.end c.args.d c.args.right c.args.kind in
    let all =
    acted c.args.party a c.args.count c.args.grants.now c.args.words.now c.check_party-checked.ensures c.looked_at-looked.ensures c.search-granted.ensures
    (rw c.act_of-act.ensures at c.party.ensures.reply, rw c.act_of-act.ensures at c.party.ensures.words)
    in
    record { reply = all.0; words = all.1 }
