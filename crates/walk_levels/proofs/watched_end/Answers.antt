-- `walk_levels::watched_end` meets its contract. Assumes nothing.
use Rattle.walk_levels.proofs.watched_end.Goals as goal

pub end_at-requires : goal.end_at-requires
end_at-requires c =
    (c.requires.0, c.requires.1.1 c.args.h, c.requires.1.0.widths c.args.h)
