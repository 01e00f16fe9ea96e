-- THE RULES OF AN ACCEPTED BOOK. In the tables that reading it leaves, each rule's first place and count are a formula within the
-- limits, in the sense of crate `formula` (`rule_of`, specs/Table.antt). `rule_inv` there takes the formula apart.
use mathlib.Core.Path.{◌≡◌, sym, subst}
use mathlib.Core.List.{List}
use mathlib.Core.Option.{some}
use Prim.Native.Nat.{ℕ, ◌<◌}
use lib.ListN.{length, get_or}
use Rattle.formula.specs.Formula.{Formula}
use Rattle.formula.specs.Table.{rule_of}
use Rattle.book.specs.Book.{Book, accepted}
use Rattle.std.specs.Prelude.{Ok}
use Rattle.reader.specs.BookTables.{BookTables, SlotTables, written, read_into}
use Rattle.reader.specs.Answer.{Reads}
use Rattle.book.specs.declared.check.Read.{Read}
use Rattle.reader.proofs.Answers.{ReadBack, read_inv}
use Rattle.book_laws.proofs.RuleLaws as laws

pub rules_of_book : (text : List ℕ) (t : BookTables) (u : SlotTables) (b : Book) → read_into text t u ≡ accepted b → (k : ℕ) → k < length b.labels → (f : Formula) × (rule_of (written b t).ops (written b t).nums (get_or (written b t).firsts k 0) (get_or (written b t).counts k 0) ≡ some f)
rules_of_book = laws.rules_of_book

-- the same from what `read_book` ensures: t and u the tables before, t' and u' after
pub rules_of_tables : (text : List ℕ) (t : BookTables) (u : SlotTables) (t' : BookTables) (u' : SlotTables) (a : Read) → Reads text t u (Ok a) t' u' → (k : ℕ) → k < a.rules → (f : Formula) × (rule_of t'.ops t'.nums (get_or t'.firsts k 0) (get_or t'.counts k 0) ≡ some f)
rules_of_tables text t u t' u' a p k h =
    let b : ReadBack text t u t' u' a = read_inv text t u t' u' a p in
    subst (λ (x : BookTables). (f : Formula) × (rule_of x.ops x.nums (get_or x.firsts k 0) (get_or x.counts k 0) ≡ some f)) (sym b.tables)
    (rules_of_book text t u b.book b.is k (subst (λ (m : ℕ). k < m) b.counted.rules h))
