-- FROM READING TO LISTING. After `read_book` the tables hold the rules that are listed, and the slots' widths; where it refuses the book, the listing is
-- the `refused` line.
use mathlib.Core.Path.{◌≡◌, refl, sym, ap, subst, ◌∙◌}
use mathlib.Core.List.{List, ◌++◌, map}
use Prim.Native.Nat.{ℕ, ◌≤◌, ◌<◌}
use native.Mathlib.Omega.{arith}
use lib.ListN.{length, take, drop, length-map}
use lib.Seq.{take-append_seam}
use Rattle.terms.specs.Limits.{slot_most, state_counts}
use Rattle.encoding.specs.Encoding.{slot_bits, Widths, StateSum, SlotSum}
use Rattle.book.specs.Book.{Book, count_in, accepted, read}
use Rattle.std.specs.Prelude.{Option, Result, Ok, Err}
use Rattle.result.specs.Refusal.{number_of}
use Rattle.book.specs.declared.check.Refused.{Refused}
use Rattle.reader.specs.BookTables.{BookTables, SlotTables, over, written, slots_written, read_into}
use Rattle.reader.specs.Answer.{Roomy, RoomySlots, Reads}
use Rattle.book.specs.declared.check.Read.{Read}
use Rattle.reader.proofs.Answers.{ReadBack, into_roomy, read_inv, refused_inv}
use Rattle.reader.proofs.Columns.{over_long}
use Rattle.reader.proofs.Runs.{roomy_is, roomy_slots_is}
use Rattle.reader.proofs.StepsOfBook.{steps_of_book}
use Rattle.book_laws.proofs.RuleLaws.{over_at, into_accepted}
use Rattle.book_laws.proofs.Openings.{narrow_at, book_opening, few_slots, slots_wide}
use Rattle.listing_reports.specs.Tail.{refused_line}
use Rattle.listing_text.specs.Listing.{rule_at, rules_listing, listing_of, listing}
use Rattle.listing_size.specs.Handed.{Handed, HandedOpening, AnswerHands}
use Rattle.listing_size.proofs.BookRules.{few_rules, book_held, len_held, label_held, label_inside, labels_long}

pub accepted_listing : (text : List ℕ) (b : Book) → read text ≡ accepted b
    → listing text ≡ rules_listing (count_in b.states) b.widths (rule_at b) (length b.labels) b.steps
unfolding listing
accepted_listing text b e = ap listing_of e

-- ---- the slots' widths in their table
module _ (text : List ℕ) (t : BookTables) (u : SlotTables) (b : Book) (e : read_into text t u ≡ accepted b) where
  reads : read text ≡ accepted b
  reads = (into_accepted text t u b e).1

  slots_room : RoomySlots u
  slots_room = roomy_slots_is u (into_accepted text t u b e).2

  widths_front : take (length b.names) (slots_written b u).widths ≡ b.widths
  unfolding slots_written over
  widths_front =
      ap (λ (k : ℕ). take k (b.widths ++ drop (length b.widths) u.widths)) (sym (slots_wide text b reads))
      ∙ take-append_seam b.widths (drop (length b.widths) u.widths)

  widths_held : Widths (slots_written b u).widths (length b.names)
  unfolding slots_written
  widths_held = record {
    few = few_slots text b reads;
    inside = omega (arith, over_long b.widths u.widths (omega (arith, slots_wide text b reads, few_slots text b reads, slots_room.widths)), few_slots text b reads, slots_room.widths);
    each = λ k h.
        subst (λ (w : ℕ). w ≤ slot_most) (sym (over_at b.widths u.widths k (omega (arith, h, slots_wide text b reads))))
        (narrow_at b.widths k (book_opening text b reads).narrow);
  }

  -- ---- the rules' tables
  lens_long : 64 ≤ length (written b t).lens
  unfolding written
  lens_long =
      let room : 64 ≤ length t.lens = (roomy_is t (into_accepted text t u b e).0).lens in
      omega (arith, room, over_long (map length b.labels) t.lens (omega (arith, room, length-map b.labels length, few_rules text b reads)))

  written_handed : (state vars : ℕ) → length t.ops ≡ 1024 → length t.nums ≡ 1024
      → StateSum (count_in b.states) state → SlotSum (take (length b.names) (slots_written b u).widths) (length b.names) vars
      → Handed text (written b t) (length b.labels) b.head state vars
  written_handed state vars o m p q = record {
    book = b;
    is = reads;
    rules_is = refl;
    held = book_held text t u b e o m;
    len = len_held text t u b e;
    label = label_held text t u b e;
    in_label = label_inside text t u b e;
    in_labels = labels_long text t u b e;
    in_lens = lens_long;
    state_is = p.is;
    vars_is = q.is ∙ ap slot_bits widths_front;
    state_most = p.most;
    vars_most = omega (arith, q.most, few_slots text b reads);
    lists = accepted_listing text b reads ∙ ap (rules_listing (count_in b.states) b.widths (rule_at b) (length b.labels)) (sym (steps_of_book text b reads));
  }

-- t and u the tables before, t' and u' after
module _ (text : List ℕ) (t : BookTables) (u : SlotTables) (t' : BookTables) (u' : SlotTables) where
  module _ (a : Read) (p : Reads text t u (Ok a) t' u') where
    back : ReadBack text t u t' u' a
    back = read_inv text t u t' u' a p

    count_low : count_in a.states < state_counts
    count_low = subst (λ (c : Option ℕ). count_in c < state_counts) (sym back.counted.states) (book_opening text back.book (reads text t u back.book back.is)).count

    widths_handed : Widths u'.widths a.slots
    widths_handed =
        subst (λ (x : SlotTables). Widths x.widths a.slots) (sym back.slots)
        (subst (Widths (slots_written back.book u).widths) (sym back.counted.slots) (widths_held text t u back.book back.is))

    with_bits : (state vars : ℕ) → length t.ops ≡ 1024 → length t.nums ≡ 1024 → StateSum (count_in a.states) state → SlotSum (take a.slots u'.widths) a.slots vars
        → Handed text t' a.rules a.steps_at state vars
    with_bits state vars o m q r =
        let b : Book = back.book in
        let q' : StateSum (count_in b.states) state = subst (λ (c : Option ℕ). StateSum (count_in c) state) back.counted.states q in
        let r₁ : SlotSum (take a.slots (slots_written b u).widths) a.slots vars = subst (λ (x : SlotTables). SlotSum (take a.slots x.widths) a.slots vars) back.slots r in
        let r' : SlotSum (take (length b.names) (slots_written b u).widths) (length b.names) vars =
        subst (λ (k : ℕ). SlotSum (take k (slots_written b u).widths) k vars) back.counted.slots r₁ in
        subst (λ (x : BookTables). Handed text x a.rules a.steps_at state vars) (sym back.tables)
        (subst (λ (k : ℕ). Handed text (written b t) k a.steps_at state vars) (sym back.counted.rules)
        (subst (λ (k : ℕ). Handed text (written b t) (length b.labels) k state vars) (sym back.counted.head) (written_handed text t u b back.is state vars o m q' r')))

    handed : length t.ops ≡ 1024 → length t.nums ≡ 1024 → HandedOpening text t' u'.widths a.rules a.steps_at a.slots a.states
    handed o m = record { low = count_low; wide = widths_handed; hands = λ state vars q r. with_bits state vars o m q r }

  refused_listing : (e : Refused) → Roomy t → RoomySlots u → Reads text t u (Err e) t' u' → listing text ≡ refused_line (number_of e.refusal) e.line
  unfolding listing
  refused_listing e room slots p = ap listing_of (sym (into_roomy text t u room slots) ∙ (refused_inv text t u t' u' e p).0)

  pub answer_hands : (a : Result Read Refused) → Roomy t → RoomySlots u → length t.ops ≡ 1024 → length t.nums ≡ 1024 → Reads text t u a t' u'
      → AnswerHands text t' u'.widths a
  answer_hands (Ok a) room wide o m p = handed a p o m
  answer_hands (Err e) room wide o m p = refused_listing e room wide p
