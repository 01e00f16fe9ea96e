use Rattle.std.specs.Prelude.{IsTrue, EachIndex, ◌↔◌}
use Rattle.std.proofs.Common.{◌≤◌, take, get_or}
use borrow.Author.Rules.{rules}
use Rattle.encoding.proofs.Places.{narrow_is}
use Rattle.encoding.proofs.Opening.is_narrow.Goals as goal

pub returns : goal.returns
returns c =
    let w : IsTrue c.all.result ↔ EachIndex (take c.args.self.now.slots c.args.self.now.widths.now) (λ k. get_or (take c.args.self.now.slots c.args.self.now.widths.now) k 0 ≤ 64) = search rules in
    narrow_is _ _ _ c.requires w
