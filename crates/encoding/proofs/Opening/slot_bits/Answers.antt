use Rattle.std.proofs.Common.{◌≡◌, ◌<◌, take}
use Rattle.std.specs.List.{sum}
use borrow.Author.Rules.{rules}
use Rattle.encoding.proofs.Sums.{slots_fit, slots_summed}
use Rattle.encoding.proofs.Opening.slot_bits.Goals as goal

pub sum-requires-clause-fits : goal.sum-requires-clause-fits
sum-requires-clause-fits c =
    let h : sum (take c.args.self.now.slots c.args.self.now.widths.now) < 18446744073709551616 = slots_fit _ _ c.requires in search rules

pub returns : goal.returns
returns c =
    let e : c.sum.result ≡ sum (take c.args.self.now.slots c.args.self.now.widths.now) = search rules in slots_summed _ _ c.requires _ e
