-- A book that is read has no more rules than there are places for.
use mathlib.Core.List.{List}
use mathlib.Core.Path.{◌≡◌, refl, subst}
use Prim.Native.Nat.{ℕ, ◌≤◌}
use native.Mathlib.Omega.{arith}
use Rattle.std.specs.Prelude.{Result, Ok, Err, ⊤}
use Rattle.terms.specs.Limits.{book_rules}
use Rattle.book.specs.declared.check.Refused.{Refused}
use Rattle.reader.specs.BookTables.{BookTables, SlotTables, columns, slot_columns}
use Rattle.reader.specs.Answer.{Reads}
use Rattle.book.specs.declared.check.Read.{Read}
use Rattle.opened.specs.declared.Book.{Book as Memory}
use Rattle.book.specs.Book.{book_result}
use Rattle.book.specs.Answer.{result_of}
use Rattle.reader.specs.BookTables.{read_into}
use Rattle.opened.specs.Opened.{blank, blank_slots, blank_book, Opened, ReadsIn}
use Rattle.reader.proofs.Answers.{read_inv}
use Rattle.book_laws.proofs.RuleLaws.{accepted_done, into_accepted}

module _ (text : List ℕ) (t : BookTables) (u : SlotTables) (t' : BookTables) (u' : SlotTables) (r : Result Read Refused) (a : Read) (p : Reads text t u r t' u') (e : r ≡ Ok a) where
  reads_ok : Reads text t u (Ok a) t' u'
  reads_ok = subst (λ (x : Result Read Refused). Reads text t u x t' u') e p

  few_rules : a.rules ≤ book_rules
  few_rules =
      let inv = read_inv text t u t' u' a reads_ok in
      omega (arith, inv.counted.rules, (accepted_done text inv.book (into_accepted text t u inv.book inv.is).1).sound.few)

-- the book that memory of its own then holds
pub opened : (text : List ℕ) (b : Memory) (r : Result Read Refused)
    → Reads text blank blank_slots r (columns b.labels b.lens b.kinds b.firsts b.counts b.ops b.nums) (slot_columns b.names b.sizes b.widths) → r ≡ Ok b.read
    → Opened text b
opened text b r p e = record { reads = reads_ok text blank blank_slots _ _ r b.read p e; few = few_rules text blank blank_slots _ _ r b.read p e }

-- so it is of a blank book into which a text was read
module _ (text : List ℕ) (b b' : Memory) (z : b ≡ blank_book) (r : Result ⊤ Refused) (p : ReadsIn text b r b') where
  into_blank : (a : Result ⊤ Refused) → r ≡ a → ReadsIn text blank_book a b'
  into_blank a e = subst (λ (x : Result ⊤ Refused). ReadsIn text blank_book x b') e (subst (λ (x : Memory). ReadsIn text x r b') z p)

  pub read_opens : (u : ⊤) → r ≡ Ok u → Opened text b'
  read_opens u e = opened text b' (Ok b'.read) (into_blank (Ok u) e) refl

  pub read_refuses : (x : Refused) → r ≡ Err x → result_of (Err x) ≡ book_result (read_into text blank blank_slots)
  read_refuses x e = (into_blank (Err x) e).0.answer
