use Rattle.program_lines.proofs.Ends.{end_among_eight}
use native.Mathlib.Omega.{arith}
use Rattle.program_lines.proofs.feeds.has_feed.Goals as goal

pub returns : goal.returns
returns c =
    rw (c.is_feed-8.ensures, c.is_feed-7.ensures, c.is_feed-6.ensures, c.is_feed-5.ensures, c.is_feed-4.ensures, c.is_feed-3.ensures, c.is_feed-2.ensures, c.is_feed.ensures)
    (end_among_eight _ _ (omega arith))
