-- WHAT THE REPORTS OF A LISTING SAY: the theorems of this crate, each by the laws of the files beside this one. Their terms stand in specs/Reports.antt
-- and, for step lines of any numbers, in specs/Called.antt.
use mathlib.Core.Path.{◌≡◌, refl}
use mathlib.Core.Bool.{true}
use mathlib.Core.List.{List}
use mathlib.Core.Logic.{◌↔◌}
use Prim.Native.Nat.{ℕ, ◌<◌}
use lib.ListN.{length}
use Rattle.meaning.specs.Alarm.{Record, Alarm}
use Rattle.meaning.specs.Plain.{Plain}
use Rattle.meaning.specs.State.{initial_state}
use Rattle.book.specs.Book.{Book, StepLine, accepted, read}
use Rattle.listing_rules.specs.Rules.{Rule, compiles, mon}
use Rattle.listing_reports.specs.Reports.{fresh_states, Report, book_reports}
use Rattle.listing_text.specs.Listing.{rule_at, rules_listing}
use Rattle.listing_size.proofs.Handing.{accepted_listing}
use Rattle.listing_means.specs.Reports.{◌∈◌, InOrderLines, Begins, truths_of, Says, Reported, PlainSays, Ascending, Listed}
use Rattle.listing_means.specs.Called.{Called, alone}
use Rattle.listing_means.proofs.Calling as calling
use Rattle.listing_means.proofs.Firsts as firsts
use Rattle.listing_means.proofs.Orders as orders

-- ---- step lines numbered 0, 1, 2 and on, and any record that begins with their truths
module _ (R : ℕ → Rule) (n : ℕ) (xs : List StepLine) (rec : Record) where
  -- the reports are those that document 01 asks for, and no others
  pub report_says : InOrderLines xs → Begins rec xs → (p : Report) → (p ∈ book_reports R n xs) ↔ Says R n xs rec p
  report_says o g p = firsts.report_iff R n xs rec o g p

  -- a rule that compiles has one exactly where its alarm holds at a step of the book
  pub reported_where : InOrderLines xs → Begins rec xs → (r : ℕ) → r < n → compiles (R r) ≡ true → Reported R n xs r ↔ ((s : ℕ) × (s < length xs) × Alarm (mon (R r)) rec s)
  reported_where o g r = firsts.reported_iff R n xs rec o g r

  -- a plain rule: what it is in temporal logic
  pub plain_says : InOrderLines xs → Begins rec xs → (r : ℕ) → r < n → Plain (R r).formula → PlainSays R n xs rec r
  plain_says o g r = firsts.plain_says R n xs rec o g r

-- ---- step lines of any numbers
module _ (R : ℕ → Rule) (n : ℕ) (xs : List StepLine) where
  -- by step line and then by rule
  pub reports_ascend : Ascending (book_reports R n xs)
  reports_ascend = orders.ascending R n (fresh_states R) xs

  -- one call a line: the rule's own monitor, from its fresh state
  pub report_called :
      (p : Report)
      → (p ∈ book_reports R n xs) ↔ ((p.rule < n) × Called (R p.rule) (initial_state (mon (R p.rule))) xs p.place p.at p.culprit)
  report_called p = calling.called_iff R n (fresh_states R) xs p

  -- as in a book with that rule alone
  pub report_alone : (p : Report) → (p ∈ book_reports R n xs) ↔ ((p.rule < n) × (alone p ∈ book_reports (λ r. R p.rule) 1 xs))
  report_alone p = calling.alone_iff R n xs p

-- ---- from bytes: the listing of an accepted book whose step lines are numbered 0, 1, 2 and on
pub book_reports_lem : (text : List ℕ) (b : Book) → read text ≡ accepted b → InOrderLines b.steps → Listed text b
unfolding rules_listing
book_reports_lem text b e o = record {
  found = book_reports (rule_at b) (length b.labels) b.steps;
  prints = accepted_listing text b e;
  says = report_says (rule_at b) (length b.labels) b.steps (truths_of b.steps) o (λ i h. refl);
  ascending = reports_ascend (rule_at b) (length b.labels) b.steps;
}

-- that settles its `report` lines: no other list of reports will do
pub one_list : (text : List ℕ) (b : Book) (k l : Listed text b) → k.found ≡ l.found
one_list text b k l = orders.same_list k.found l.found k.ascending l.ascending (λ p. (λ h. (l.says p).1 ((k.says p).0 h), λ h. (k.says p).1 ((l.says p).0 h)))
