-- What the layout calls answer for what they are lent, with refusals 1 and 2.
--     rule_bits_of    the bits of a rule
--     node_slot_of    a node's own bits and where they begin, counted from the rule's first bit
--     layout_of      a book: the numbers of the whole, and the outputs afterwards, which are the first bits and the bits of the rules and the
--                   first bits of the slots
use Rattle.std.specs.Prelude.{Bool, false, ◌&&◌, not, List, [], ◌∷◌, ◌≡◌, ℕ, ◌≤◌, ◌<◌, leb, ltb, eqb, length, get_or, take}
use Rattle.std.proofs.Math.Option.{Option, none, some}
use Rattle.std.proofs.lemmas.List.Edits.{sets}
use Rattle.terms.specs.Limits.{book_nodes, book_rules, book_slots, state_counts, node_cells}
use Rattle.terms.specs.Choice.{pick}
use Rattle.result.specs.Result.{Result, given, refused, or_else}
use Rattle.result.specs.Refusal.{number_of}
use Rattle.result.specs.declared.Refusal.{Refusal}
use Rattle.formula.specs.Formula.{Formula}
use Rattle.formula.specs.Table.{roomy, is_some, rule_of}
use Rattle.monitor.specs.Mon.{Mon}
use Rattle.monitor.specs.Table.{compiled_of}
use Rattle.monitor.specs.Compile.{rule_faults}
use Rattle.plan.specs.Layout.{pieces, bits, slot_in}
use Rattle.plan.specs.Book.{is_zero, part_bits, listed, first_bit, filled_in, Rowed, Arranged}
use Rattle.plan.specs.declared.layout.Slot.{Slot}
use Rattle.encoding.specs.declared.ConfigEncoding.{ConfigEncoding}
use Rattle.encoding.specs.Below.{all_below}
use Rattle.encoding.specs.Encoding.{slot_first, monitors_base, encoding_of, opening, Widths}

-- refusal 1: 1,024 formula nodes, 256 monitor nodes of seven numbers
abbrev pub roomy_nodes : List ℕ → List ℕ → List ℕ → Bool
roomy_nodes ops nums nodes = leb node_cells (length nodes) && roomy ops nums

-- ---- one rule
abbrev pub bits_by : Option Mon → Result ℕ
bits_by none = refused 2
bits_by (some m) = given (bits m)

unfoldable pub rule_bits_of : List ℕ → List ℕ → ℕ → ℕ → List ℕ → ℕ → ℕ → Result ℕ
rule_bits_of ops nums first count nodes nfirst ncount =
    or_else (roomy_nodes ops nums nodes) 1 (bits_by (compiled_of ops nums first count nodes nfirst ncount))

-- a number that is no node's is 2
abbrev pub slot_by : Option Mon → ℕ → Result Slot
slot_by none j = refused 2
slot_by (some m) j = or_else (ltb j (length (pieces m))) 2 (given (slot_in (pieces m) j))

unfoldable pub node_slot_of : List ℕ → List ℕ → ℕ → ℕ → List ℕ → ℕ → ℕ → ℕ → Result Slot
node_slot_of ops nums first count nodes nfirst ncount j =
    or_else (roomy_nodes ops nums nodes) 1 (slot_by (compiled_of ops nums first count nodes nfirst ncount) j)

-- ---- a book
-- refusal 1: 64 rules in each list
abbrev pub roomy_rules : List ℕ → List ℕ → List ℕ → List ℕ → List ℕ → List ℕ → Bool
roomy_rules kinds refusals firsts counts nfirsts ncounts =
    leb book_rules (length kinds) && (leb book_rules (length refusals) && (leb book_rules (length firsts)
    && (leb book_rules (length counts) && (leb book_rules (length nfirsts) && leb book_rules (length ncounts)))))

-- and 32 slots in the list of widths
abbrev pub roomy_tables : List ℕ → List ℕ → List ℕ → List ℕ → List ℕ → List ℕ → List ℕ → List ℕ → List ℕ → List ℕ → Bool
roomy_tables ops nums nodes kinds refusals firsts counts nfirsts ncounts widths =
    roomy_nodes ops nums nodes && (roomy_rules kinds refusals firsts counts nfirsts ncounts && leb book_slots (length widths))

-- the same of the outputs, by their lengths
abbrev pub roomy_outputs : ℕ → ℕ → ℕ → Bool
roomy_outputs starts bits places = leb book_rules starts && (leb book_rules bits && leb book_slots places)

-- the formula of rule r, its compiled rule, and its bits
abbrev pub rule_at : List ℕ → List ℕ → List ℕ → List ℕ → ℕ → Option Formula
rule_at ops nums firsts counts r = rule_of ops nums (get_or firsts r 0) (get_or counts r 0)

abbrev pub mon_at : List ℕ → List ℕ → List ℕ → List ℕ → List ℕ → List ℕ → List ℕ → ℕ → Option Mon
mon_at ops nums firsts counts nodes nfirsts ncounts r =
    compiled_of ops nums (get_or firsts r 0) (get_or counts r 0) nodes (get_or nfirsts r 0) (get_or ncounts r 0)

abbrev pub bits_in : Option Mon → ℕ
bits_in none = 0
bits_in (some m) = bits m

-- the flag k says what compiling says: 0 where no refusal applies, and the nodes hold a compiled rule; else the first refusal
abbrev pub agrees : List Refusal → ℕ → Option Mon → Bool
agrees [] k m = eqb k 0 && is_some m
agrees (n ∷ ns) k m = not (eqb k 0) && eqb k (number_of n)

-- what is no rule agrees with no flag
abbrev pub fine : Option Formula → ℕ → Option Mon → Bool
fine none k m = false
fine (some f) k m = agrees (rule_faults f) k m

-- the result, and the three outputs afterwards
pub data Outcome : Type 0 where
  outcome : Result ConfigEncoding → List ℕ → List ℕ → List ℕ → Outcome

-- the rules are compiled as their flags say
abbrev pub fine_of : (ℕ → Option Formula) → List ℕ → (ℕ → Option Mon) → ℕ → Bool
fine_of rule refusals mon r = fine (rule r) (get_or refusals r 0) (mon r)

-- refusal 2: more states, slots, bits of a slot or rules than a book may have, or a rule that is not compiled as its flag says
abbrev pub sound : ℕ → List ℕ → ℕ → (ℕ → Option Formula) → List ℕ → (ℕ → Option Mon) → ℕ → Bool
sound states widths m rule refusals mon n = opening states widths m && (leb n book_rules && all_below (fine_of rule refusals mon) n)

-- slots of widths ws: the first bit of each stands in its place, and what is past them is kept
abbrev pub slots_in : ℕ → List ℕ → List ℕ → List ℕ
slots_in states ws places = sets places 0 (listed (slot_first states ws) (length ws))

abbrev pub laid_out : List ℕ → List ℕ → (ℕ → Option Mon) → ℕ → ℕ → List ℕ → List ℕ → List ℕ → List ℕ → Outcome
laid_out kinds refusals mon n states ws starts bits places =
    outcome (given (encoding_of states ws n (is_zero refusals) (λ r. bits_in (mon r))))
    (filled_in (is_zero refusals) (first_bit (monitors_base states ws) n (is_zero kinds) (is_zero refusals) (λ r. bits_in (mon r))) starts n)
    (filled_in (is_zero refusals) (λ r. bits_in (mon r)) bits n)
    (slots_in states ws places)

unfoldable pub layout_of : List ℕ → List ℕ → List ℕ → List ℕ → List ℕ → List ℕ → List ℕ → List ℕ → List ℕ → ℕ → ℕ → List ℕ → ℕ
    → List ℕ → List ℕ → List ℕ → Outcome
layout_of ops nums firsts counts nodes nfirsts ncounts kinds refusals n states widths m starts bits places =
    pick (roomy_tables ops nums nodes kinds refusals firsts counts nfirsts ncounts widths && roomy_outputs (length starts) (length bits) (length places))
    (pick (sound states widths m (rule_at ops nums firsts counts) refusals (mon_at ops nums firsts counts nodes nfirsts ncounts) n)
    (laid_out kinds refusals (mon_at ops nums firsts counts nodes nfirsts ncounts) n states (take m widths) starts bits places)
    (outcome (refused 2) starts bits places))
    (outcome (refused 1) starts bits places)

-- ---- what the inner calls ask: room in the formula table, and rule r, or all rules below n, in the lists
pub record InRules (ops nums refusals firsts counts nfirsts ncounts : List ℕ) (r : ℕ) : Type 0 where
  pub in_ops : book_nodes ≤ length ops
  pub in_nums : book_nodes ≤ length nums
  pub in_refusals : r < length refusals
  pub in_firsts : r < length firsts
  pub in_counts : r < length counts
  pub in_nfirsts : r < length nfirsts
  pub in_ncounts : r < length ncounts

pub record InRulesUpto (ops nums refusals firsts counts nfirsts ncounts : List ℕ) (n : ℕ) : Type 0 where
  pub in_ops : book_nodes ≤ length ops
  pub in_nums : book_nodes ≤ length nums
  pub in_refusals : n ≤ length refusals
  pub in_firsts : n ≤ length firsts
  pub in_counts : n ≤ length counts
  pub in_nfirsts : n ≤ length nfirsts
  pub in_ncounts : n ≤ length ncounts

-- what laying out asks, and what it leaves, with the bits of the rules by the rows of the node table
pub record Layable (kinds refusals nodes nfirsts ncounts : List ℕ) (n states : ℕ) (widths : List ℕ) (m : ℕ) (starts bits places : List ℕ) : Type 0 where
  pub rowed : Rowed kinds refusals nodes nfirsts ncounts n
  pub counted : states < state_counts
  pub slots : Widths widths m
  pub in_starts : n ≤ length starts
  pub in_bits : n ≤ length bits
  pub in_places : m ≤ length places

pub record Laid (kinds refusals nodes nfirsts ncounts : List ℕ) (n states : ℕ) (widths : List ℕ) (m : ℕ) (starts starts' bits bits' places places' : List ℕ)
    (r : ConfigEncoding) : Type 0 where
  pub encoded : r ≡ encoding_of states (take m widths) n (is_zero refusals) (part_bits nodes nfirsts ncounts)
  pub arranged : Arranged (monitors_base states (take m widths)) n (is_zero kinds) (is_zero refusals) (part_bits nodes nfirsts ncounts) starts starts' bits bits'
  pub slots_are : places' ≡ slots_in states (take m widths) places
