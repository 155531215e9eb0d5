-- `rights_c::vk_grant_add` meets its contract, by those of the functions that it calls. Assumes nothing.
use Rattle.rights_c.proofs.GrantLaws.{granted}
use Rattle.rights_c.proofs.vk_grant_add.Goals as goal

pub returns : goal.returns
returns c =
    let all = granted c.args.party c.args.section c.args.rights c.args.count.now c.args.grants.now c.args.words.now (c.grant-reply.ensures.reply, c.grant-reply.ensures.count) c.place_for-place.ensures c.put.ensures in
    record { reply = all.0; grants = all.1.0; count = all.1.1 }
