-- EVERY OLD BOOK LISTS AS IT DID, WITH `plan` PUT IN.
use mathlib.Core.Path.{◌≡◌, refl, sym, ap, ap₂, subst, ◌∙◌}
use mathlib.Core.List.{List, [], ◌++◌}
use Prim.Native.Nat.{ℕ}
use lib.ListN.{length}
use Rattle.plan.specs.Width.{first_power, ceil_log2}
use Rattle.encoding.specs.Encoding.{slot_bits, monitors_base}
use Rattle.book.specs.Book.{Book, count_in, Outcome, accepted, refused}
use Rattle.std.specs.Prelude.{Option}
use Rattle.book_laws.specs.Before.{read_before, NoOpening, Unopened}
use Rattle.book_laws.proofs.AsBefore.{reads_as_before, accepted_as_before}
use Rattle.listing_line.specs.Plan.{plan_line}
use Rattle.listing_rules.specs.Rules.{encoding_for}
use Rattle.listing_head.specs.Head.{rules_text}
use Rattle.listing_text.specs.Listing.{rule_at, rules_listing, listing_of, listing}
use Rattle.listing_means.specs.AsBefore.{tail_before, ListsAsBefore}

no_base : monitors_base 0 [] ≡ 0
unfolding ceil_log2 first_power slot_bits
no_base = refl

unopened_listing : (b : Book) → Unopened b → ListsAsBefore (accepted b) (listing_of (accepted b))
unfolding rules_listing
unopened_listing b u =
    let n : ℕ = length b.labels in
    record {
      was = refl;
      is =
          ap₂ (λ (c : Option ℕ) (ws : List ℕ). rules_listing (count_in c) ws (rule_at b) n b.steps) u.states u.widths
          ∙ ap (λ (k : ℕ). rules_text k (rule_at b) n ++ (plan_line (encoding_for 0 [] (rule_at b) n) ++ tail_before b)) no_base;
    }

outcome_before : (t : List ℕ) (o : Outcome) → read_before t ≡ o → ListsAsBefore o (listing_of o)
outcome_before t (accepted b) e = unopened_listing b (accepted_as_before t b e).1
outcome_before t (refused n k) e = refl

pub lists_as_before : (t : List ℕ) → NoOpening t → ListsAsBefore (read_before t) (listing t)
unfolding listing
lists_as_before t h = subst (λ (o : Outcome). ListsAsBefore (read_before t) (listing_of o)) (sym (reads_as_before t h)) (outcome_before t (read_before t) refl)
