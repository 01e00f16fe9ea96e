-- A whole book: what reading it leaves is what its rules are listed from, and the listing stands in front of the output.
use mathlib.Core.List.{List, ◌++◌}
use mathlib.Core.Path.{◌≡◌, refl, sym, ap, ap₂, subst, ◌∙◌}
use Prim.Native.Nat.{ℕ, ◌+◌, ◌≤◌, ◌<◌}
use native.Mathlib.Omega.{arith}
use borrow.Author.Tests.{le-leb, lt-leb}
use lib.ListN.{length, take, drop, length-append, length-drop, take-append-drop}
use Rattle.encoding.specs.Encoding.{monitors_base}
use Rattle.encoding.specs.declared.ConfigEncoding.{ConfigEncoding}
use Rattle.book.specs.Book.{count_in}
use Rattle.result.specs.Refusal.{number_of}
use Rattle.book.specs.declared.check.Refused.{Refused}
use Rattle.reader.specs.BookTables.{BookTables, columns}
use Rattle.reader.specs.Answer.{Roomy, RoomySlots}
use Rattle.opened.specs.declared.Book.{Book as Memory}
use Rattle.opened.specs.Opened.{blank, blank_slots, blank_book, Opened, Opens, ReadsIn}
use Rattle.opened.proofs.Reading.{read_opens, read_refuses}
use Rattle.listing.specs.Books.{columns_in}
use Rattle.text.specs.Tape.{Tape, tape, Wrote}
use Rattle.text.proofs.Tapes.{as_text, then, wrote_first}
use Rattle.listing_line.specs.Plan.{plan_line}
use Rattle.listing_rules.specs.Rules.{Rule, encoding_for}
use Rattle.listing_rules.specs.Answers.{Encodable, Encodes}
use Rattle.listing_head.specs.Head.{rules_text}
use Rattle.listing_rules.specs.Tabled.{Tabled}
use Rattle.listing_reports.specs.Tail.{refused_line, end_line}
use Rattle.listing_text.specs.Listing.{listing, rule_at, rules_listing}
use Rattle.listing_size.proofs.ListingFits.{listing_fits}
use Rattle.reader.proofs.Runs.{accepted_short}
use Rattle.listing_size.specs.Handed.{Handed, HandedOpening}
use Rattle.listing_size.proofs.Handing.{answer_hands}
use Rattle.listing_steps.specs.Holding.{Rows}
use Rattle.listing_steps.specs.Stepped.{StepsDue, StepsReported}
use Rattle.listing_steps.proofs.Start.{tabled_rows}
use Rattle.result.specs.Result.{given}
use Rattle.std.specs.Prelude.{Result, Ok, Err, ⊤}
use Rattle.result.specs.declared.Refusal.TheVariants.{Short}
use Rattle.listing.specs.Whole.{HeadListed, Compiled, TailListed}
use Rattle.listing.specs.LentLists.{HoldsRules}
use Rattle.listing.specs.Lists.{list_call, Answers}

-- ---- the entry point
pub list_short : (text out : List ℕ) → length out < 262144 → Answers (list_call text out) (Err Short) out
unfolding list_call
list_short text out h = rw (lt-leb 262144 (length out) h) record { answers = refl; leaves = refl }

module _ (text out out' : List ℕ) (n : ℕ) (w : Wrote (tape out 0) (listing text) (tape out' n)) (h : 262144 ≤ length out) where
  fits : length (listing text) ≤ length out
  fits = omega (arith, listing_fits text)

  stood : (n ≡ length (listing text)) × (take n out' ≡ listing text) × (drop n out' ≡ drop n out)
  stood = wrote_first out out' (listing text) n w fits

  whole : out' ≡ listing text ++ drop (length (listing text)) out
  whole = sym (take-append-drop n out') ∙ ap₂ ◌++◌ stood.1 (stood.2 ∙ ap (λ (k : ℕ). drop k out) stood.0)

  pub listed : Answers (list_call text out) (Ok n) out'
  unfolding list_call
  listed = rw (le-leb 262144 (length out) h) record { answers = ap given stood.0; leaves = whole }

  pub listed_within : n ≤ length out'
  listed_within = omega (arith, stood.0, ap length whole ∙ length-append (listing text) (drop (length (listing text)) out), length-drop (length (listing text)) out, fits)

-- ---- reading
blank_roomy : Roomy blank
blank_roomy = record {
  labels = omega arith;
  lens = omega arith;
  kinds = omega arith;
  firsts = omega arith;
  counts = omega arith;
  ops = omega arith;
  nums = omega arith;
}

blank_slots_roomy : RoomySlots blank_slots
blank_slots_roomy = record { names = omega arith; lens = omega arith; widths = omega arith }

module _ (text : List ℕ) where
  opened_hands : (b : Memory) → Opened text b → HandedOpening text (columns_in b) b.widths b.read.rules b.read.steps_at b.read.slots b.read.states
  opened_hands b o = answer_hands text blank blank_slots _ _ (Ok b.read) blank_roomy blank_slots_roomy refl refl o.reads

  refused_is : (e : Refused) → Opens text (Err e) → listing text ≡ refused_line (number_of e.refusal) e.line
  refused_is e p =
      answer_hands text blank blank_slots _ _ (Err e) blank_roomy blank_slots_roomy refl refl
      record { answer = p; tables = refl; slots = refl }

  module _ (b b' : Memory) (z : b ≡ blank_book) (r : Result ⊤ Refused) (p : ReadsIn text b r b') where
    pub hands_read : (u : ⊤) → r ≡ Ok u → HandedOpening text (columns_in b') b'.widths b'.read.rules b'.read.steps_at b'.read.slots b'.read.states
    hands_read u e = opened_hands b' (read_opens text b b' z r p u e)

    pub refused_wrote : (q : Refused) (n : ℕ) (x y : Tape) → r ≡ Err q → n ≡ number_of q.refusal → Wrote x (refused_line n q.line) y → Wrote x (listing text) y
    refused_wrote q n x y e f w = as_text x y (refused_is q (read_refuses text b b' z r p q e) ∙ ap (λ (k : ℕ). refused_line k q.line) (sym f)) w

-- ---- an accepted book
module _ (text labels lens kinds firsts counts ops nums : List ℕ) (n from state vars : ℕ) (h : Handed text (columns labels lens kinds firsts counts ops nums) n from state vars) where
  abbrev tables : BookTables
  tables = columns labels lens kinds firsts counts ops nums

  holds : HoldsRules tables (rule_at h.book) n
  holds = record { labelled = record { in_labels = h.in_labels; in_lens = h.in_lens; inside = h.in_label; label = h.label }; held = h.held }

  module _ (nodes nfirsts ncounts refusals : List ℕ) (x y : Tape) (w : HeadListed tables n (state + vars) nodes nfirsts ncounts refusals x y) where
    tabled : Tabled ops nums firsts counts nodes nfirsts ncounts refusals (rule_at h.book) n
    tabled = w.tabled (rule_at h.book) holds

    pub encodable : Encodable kinds nodes nfirsts ncounts refusals n state vars
    encodable = record {
      ops = ops;
      nums = nums;
      firsts = firsts;
      counts = counts;
      rules = rule_at h.book;
      held = h.held;
      tabled = tabled;
      state_small = omega (arith, h.state_most);
      slots_small = omega (arith, h.vars_most);
    }

    pub compiled : Compiled text ops nums firsts counts nodes nfirsts ncounts refusals n
    compiled = record { short = accepted_short text h.book h.is; rules = rule_at h.book; is = tabled }

    pub book_listed : (e : ConfigEncoding) (p z : Tape) → Encodes kinds nodes nfirsts ncounts refusals n state vars e → Wrote y (plan_line e) p
        → TailListed text from ops nums firsts counts nodes nfirsts ncounts refusals n p z → Wrote x (listing text) z
    unfolding rules_listing
    book_listed e p z d l t =
        let R : ℕ → Rule = rule_at h.book in
        let count : ℕ = count_in h.book.states in
        let ws : List ℕ = h.book.widths in
        let same : e ≡ encoding_for count ws R n = d.is ops nums firsts counts R h.held tabled count ws h.state_is h.vars_is in
        let rules : Wrote x (rules_text (monitors_base count ws) R n) y =
        subst (λ (k : ℕ). Wrote x (rules_text k R n) y) (ap₂ ◌+◌ h.state_is h.vars_is) (w.text R holds) in
        as_text x z h.lists (then rules (then (subst (λ (k : ConfigEncoding). Wrote y (plan_line k) p) same l) (t.is R tabled)))

-- ---- the steps
module _ (text ops nums firsts counts nodes nfirsts ncounts refusals : List ℕ) (n : ℕ) (h : Compiled text ops nums firsts counts nodes nfirsts ncounts refusals n) where
  pub steps_due : StepsDue text ops nums nodes nfirsts refusals n
  steps_due = record { rules = h.rules; rows = tabled_rows ops nums firsts counts nodes nfirsts ncounts refusals h.rules n h.is; short = h.short }

  pub tail_listed :
      (from count : ℕ) (x y z : Tape) → StepsReported text from ops nums nodes nfirsts refusals n x y count → Wrote y (end_line count) z
      → TailListed text from ops nums firsts counts nodes nfirsts ncounts refusals n x z
  tail_listed from count x y z s w = record {
    is = λ R t.
        let rows : Rows ops nums nodes nfirsts refusals R n = tabled_rows ops nums firsts counts nodes nfirsts ncounts refusals R n t in
        then (s.wrote R rows) (as_text y z (ap end_line (sym (s.counted R rows))) w);
  }
