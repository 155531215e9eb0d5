-- `load_call::write_header` meets its contract. Assumes nothing.
use Rattle.load_call.proofs.Header.{header_written}
use Rattle.load_call.proofs.write_header.Goals as goal

pub returns : goal.returns
returns c =
    header_written c.args.s c.args.r c.args.h c.args.n c.args.book _ c.args.words.now c.requires c.first_tag-first.ensures
