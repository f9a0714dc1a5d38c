-- The line of the app count, and behind it that of the context count.
use Rattle.std.proofs.Common.{rules, codes}
use Rattle.std.proofs.KnownBytes.{Appends-trans}
use Rattle.std.specs.Io.KnownBytes.{Appends}
use Rattle.rewritten.specs.Written.{line_of}
use Rattle.rewritten.proofs.Whole.{on_ok}
use Rattle.rewritten.proofs.removed.Goals as goal

pub returns-in_ok-line-in-Some : goal.returns-in_ok-line-in-Some
returns-in_ok-line-in-Some g c =
    let first : Appends (g.W.Write.contents c.args.lines.now) (g.W.Write.contents c.line.new.lines) (line_of c.args.kept (codes "app") c.in-Some.n) = search rules in
    rw c.in-Some.is (on_ok c.context_line.result (λ grown. Appends-trans _ _ _ _ _ first grown) c.context_line.ensures)
