-- `rights_c::vk_grant_revoke` meets its contract, by those of the functions that it calls. Assumes nothing.
use Rattle.rights_c.proofs.GrantLaws.{revoked}
use Rattle.rights_c.proofs.vk_grant_revoke.Goals as goal

pub returns : goal.returns
returns c =
    let all =
    revoked c.args.party c.args.section c.args.count.now c.args.grants.now c.check_revoke-checked.ensures c.looked_at-looked.ensures (c.close_gap-kept.ensures.kept, c.close_gap-kept.ensures.list)
    (c.revoke.ensures.reply, c.revoke.ensures.count)
    in
    record { reply = all.0; grants = all.1.0; count = all.1.1 }
