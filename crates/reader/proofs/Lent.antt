-- Reading into lists that are lent one by one: an answer for what the tables hold is one for what the lists hold.
use mathlib.Core.List.{List}
use mathlib.Core.Path.{◌≡◌}
use Prim.Native.Nat.{ℕ}
use Rattle.std.specs.Prelude.{Result}
use Rattle.book.specs.declared.check.Refused.{Refused}
use Rattle.reader.specs.BookTables.{BookTables, SlotTables, columns, slot_columns}
use Rattle.reader.specs.Answer.{Reads}
use Rattle.book.specs.declared.check.Read.{Read}

pub reads_as : (text : List ℕ) (t : BookTables) (u : SlotTables) (r : Result Read Refused) (t' l : BookTables) (u' m : SlotTables)
    → Reads text t u r t' u' → l ≡ t' → m ≡ u' → Reads text t u r l m
reads_as text t u r t' l u' m p e f = rw (e, f) p

-- .. list by list
pub reads_lent : (text : List ℕ) (t : BookTables) (u : SlotTables) (r : Result Read Refused) (t' : BookTables) (u' : SlotTables)
    → Reads text t u r t' u'
    → (labels lens kinds firsts counts ops nums names sizes widths : List ℕ)
    → labels ≡ t'.labels → lens ≡ t'.lens → kinds ≡ t'.kinds → firsts ≡ t'.firsts → counts ≡ t'.counts → ops ≡ t'.ops → nums ≡ t'.nums
    → names ≡ u'.names → sizes ≡ u'.lens → widths ≡ u'.widths
    → Reads text t u r (columns labels lens kinds firsts counts ops nums) (slot_columns names sizes widths)
reads_lent text t u r t' u' p labels lens kinds firsts counts ops nums names sizes widths e0 e1 e2 e3 e4 e5 e6 e7 e8 e9 =
    rw (e0, e1, e2, e3, e4, e5, e6, e7, e8, e9) p
