-- Reading into two columns of 1,024 places answers as reading into any formula table with room does, and leaves the same nodes in front.
use mathlib.Core.Bool.{Bool, true, false, ◌&&◌}
use mathlib.Core.List.{List, ◌++◌}
use mathlib.Core.Path.{◌≡◌, refl, sym, ◌∙◌, ap, subst}
use Prim.Native.Nat.{ℕ, ◌≤◌, ◌<◌}
use native.Mathlib.Omega.{arith}
use borrow.Author.Tests.{le-leb}
use lib.ListN.{length, take, drop, replicate, length-replicate}
use lib.Seq.{take_at}
use Rattle.terms.specs.Choice.{pick}
use Rattle.book.specs.Book.{Book, Outcome, refused, book_result, read}
use Rattle.reader.specs.Answer.{Reads}
use Rattle.reader.specs.BookTables.{BookTables, SlotTables, over, written, roomy, roomy_slots, read_into, after, slots_after}
use Rattle.std.specs.Prelude.{Result, Ok, Err}
use Rattle.result.specs.Refusal.{number_of}
use Rattle.book.specs.declared.check.Refused.{Refused}
use Rattle.book.specs.declared.check.Read.{Read}
use Rattle.reader.proofs.Answers.{short, ReadBack, read_inv, refused_inv}
use Rattle.reader.proofs.Runs.{roomy_is, tables_eq}
use Rattle.reader.proofs.Sounds.{Sound}
use Rattle.book_laws.proofs.RuleLaws.{accepted_done, into_accepted}
use Rattle.node_table.specs.Columns.{front}
use Rattle.node_table.specs.declared.columns.Columns.{Columns}
use Rattle.table_read.specs.Filling.{FillsWith, FillsNone, Fills}
use Rattle.table_read.specs.RuleList.{RuleList, with_table}

-- a book that is read has no more nodes than there are places for
pub few_nodes : (text : List ℕ) (t : BookTables) (u : SlotTables) (r : Result Read Refused) (t' : BookTables) (u' : SlotTables) (a : Read)
    → Reads text t u r t' u' → r ≡ Ok a → a.nodes ≤ 1024
few_nodes text t u r t' u' a p e =
    let inv = read_inv text t u t' u' a (subst (λ (x : Result Read Refused). Reads text t u x t' u') e p) in
    omega (arith, inv.counted.nodes, (accepted_done text inv.book (into_accepted text t u inv.book inv.is).1).sound.less)

-- ---- a table of less than 1,024 nodes
pub short_reads : (text : List ℕ) (t : BookTables) (u : SlotTables) → length t.ops < 1024 → Reads text t u (Err short) t u
unfolding read_into after slots_after
short_reads text t u h = go (roomy t) refl
  where
    go : (m : Bool) → roomy t ≡ m → Reads text t u (Err short) t u
    go true e = absurd (omega (arith, (roomy_is t e).ops))
    go false e = record { answer = rw e refl; tables = rw e refl; slots = rw e refl }

pub fills_short : (len : ℕ) (text : List ℕ) (l : RuleList) (u : SlotTables) → len < 1024 → Fills len text l u (Err short) l u
fills_short len text l u h = record { reads = λ ops nums eo en. short_reads text (with_table l ops nums) u (omega arith) }

-- ---- a table with room: whether there is room rests on the rule list alone
same_room : (l : RuleList) (ops nums o₀ n₀ : List ℕ) → 1024 ≤ length ops → 1024 ≤ length nums → 1024 ≤ length o₀ → 1024 ≤ length n₀ → roomy (with_table l ops nums) ≡ roomy (with_table l o₀ n₀)
unfolding roomy
same_room l ops nums o₀ n₀ a b c d = rw (le-leb 1024 (length ops) a, le-leb 1024 (length nums) b, le-leb 1024 (length o₀) c, le-leb 1024 (length n₀) d) refl

same_read : (text : List ℕ) (t t₀ : BookTables) (u : SlotTables) → roomy t ≡ roomy t₀ → read_into text t u ≡ read_into text t₀ u
unfolding read_into
same_read text t t₀ u e = ap (λ (m : Bool). pick (m && roomy_slots u) (read text) (refused 1 0)) e

-- a column's front, in front of another list
over_front : (xs l₀ l os : List ℕ) (n : ℕ) → os ≡ over xs l₀ → n ≡ length xs → front n os l ≡ over xs l
unfolding over
over_front xs l₀ l os n e k =
    ap (λ (r : List ℕ). take n r ++ drop n l) e
    ∙ ap (λ (r : List ℕ). r ++ drop n l) (take_at xs (drop (length xs) l₀) n (sym k))
    ∙ ap (λ (m : ℕ). xs ++ drop m l) k

module _ (len : ℕ) (text : List ℕ) (l l' : RuleList) (u u' : SlotTables) (o₀ n₀ os ns : List ℕ) (roomy-len : 1024 ≤ len) (eo₀ : length o₀ ≡ 1024) (en₀ : length n₀ ≡ 1024) where
  module _ (ops nums : List ℕ) (eo : length ops ≡ len) (en : length nums ≡ len) where
    same : read_into text (with_table l ops nums) u ≡ read_into text (with_table l o₀ n₀) u
    same = same_read text (with_table l ops nums) (with_table l o₀ n₀) u (same_room l ops nums o₀ n₀ (omega arith) (omega arith) (omega arith) (omega arith))

  module _ (a : Read) (p : Reads text (with_table l o₀ n₀) u (Ok a) (with_table l' os ns) u') where
    abbrev n : ℕ
    n = a.nodes

    abbrev inv : ReadBack text (with_table l o₀ n₀) u (with_table l' os ns) u' a
    inv = read_inv text (with_table l o₀ n₀) u (with_table l' os ns) u' a p

    abbrev b : Book
    b = inv.book

    w : with_table l' os ns ≡ written b (with_table l o₀ n₀)
    w = inv.tables

    n_is : n ≡ length b.ops
    n_is = inv.counted.nodes

    sound : Sound b
    sound = (accepted_done text b (into_accepted text (with_table l o₀ n₀) u b inv.is).1).sound

    n_nums : n ≡ length b.nums
    n_nums = n_is ∙ sym sound.nums_long

    accepts : (c : Columns) → c.count ≡ n → c.ops ≡ os → c.nums ≡ ns → FillsWith len text l u (record { read = a; columns = c }) l' u'
    unfolding after slots_after written
    accepts c ec eo en = record {
      reads = λ ops nums ko kn. record {
        answer = p.answer ∙ ap book_result (sym (same ops nums ko kn));
        tables = tables_eq
            (with_table l' (front c.count c.ops ops) (front c.count c.nums nums))
            (written b (with_table l ops nums))
            (ap (λ (t : BookTables). t.labels) w)
            (ap (λ (t : BookTables). t.lens) w)
            (ap (λ (t : BookTables). t.kinds) w)
            (ap (λ (t : BookTables). t.firsts) w)
            (ap (λ (t : BookTables). t.counts) w)
            (over_front b.ops o₀ ops c.ops c.count (eo ∙ ap (λ (t : BookTables). t.ops) w) (ec ∙ n_is))
            (over_front b.nums n₀ nums c.nums c.count (en ∙ ap (λ (t : BookTables). t.nums) w) (ec ∙ n_nums))
            ∙ ap (λ (o : Outcome). after o (with_table l ops nums)) (sym (same ops nums ko kn ∙ inv.is));
        slots = inv.slots ∙ ap (λ (o : Outcome). slots_after o u) (sym (same ops nums ko kn ∙ inv.is));
      };
      fits = omega (arith, n_is, sound.less);
    }

  refuses : (e : Refused) → Reads text (with_table l o₀ n₀) u (Err e) (with_table l' os ns) u' → FillsNone len text l u e l' u'
  unfolding after slots_after
  refuses e p = record {
    reads = λ ops nums eo en. record {
      answer = p.answer ∙ ap book_result (sym (same ops nums eo en));
      tables = tables_eq
          (with_table l' ops nums)
          (with_table l ops nums)
          (ap (λ (t : BookTables). t.labels) w)
          (ap (λ (t : BookTables). t.lens) w)
          (ap (λ (t : BookTables). t.kinds) w)
          (ap (λ (t : BookTables). t.firsts) w)
          (ap (λ (t : BookTables). t.counts) w)
          refl
          refl
          ∙ ap (λ (o : Outcome). after o (with_table l ops nums)) (sym (same ops nums eo en ∙ is));
      slots = (refused_inv text (with_table l o₀ n₀) u (with_table l' os ns) u' e p).2 ∙ ap (λ (o : Outcome). slots_after o u) (sym (same ops nums eo en ∙ is));
    };
  }
    where
      is : read_into text (with_table l o₀ n₀) u ≡ refused (number_of e.refusal) e.line
      is = (refused_inv text (with_table l o₀ n₀) u (with_table l' os ns) u' e p).0

      w : with_table l' os ns ≡ with_table l o₀ n₀
      w = (refused_inv text (with_table l o₀ n₀) u (with_table l' os ns) u' e p).1

-- what was read into two fresh columns, for a table of `len` nodes
module _ (len : ℕ) (text : List ℕ) (l l' : RuleList) (u u' : SlotTables) (os ns : List ℕ) (r : Result Read Refused)
    (p : Reads text (with_table l (replicate 1024 0) (replicate 1024 0)) u r (with_table l' os ns) u') (h : 1024 ≤ len) where
  module _ (a : Read) (e : r ≡ Ok a) where
    got : Reads text (with_table l (replicate 1024 0) (replicate 1024 0)) u (Ok a) (with_table l' os ns) u'
    got = subst (λ (x : Result Read Refused). Reads text (with_table l (replicate 1024 0) (replicate 1024 0)) u x (with_table l' os ns) u') e p

    pub fills_read : (c : Columns) → c.count ≡ a.nodes → c.ops ≡ os → c.nums ≡ ns → Fills len text l u (Ok (record { read = a; columns = c })) l' u'
    fills_read = accepts len text l l' u u' (replicate 1024 0) (replicate 1024 0) os ns h (length-replicate {A = ℕ} 1024 0) (length-replicate {A = ℕ} 1024 0) a got

  pub fills_none : (x : Refused) → r ≡ Err x → Fills len text l u (Err x) l' u'
  fills_none x e =
      refuses len text l l' u u' (replicate 1024 0) (replicate 1024 0) os ns h (length-replicate {A = ℕ} 1024 0) (length-replicate {A = ℕ} 1024 0) x
      (subst (λ (x : Result Read Refused). Reads text (with_table l (replicate 1024 0) (replicate 1024 0)) u x (with_table l' os ns) u') e p)
