-- The loop of the filling pass: up to the place where the step lines begin there is none, and the tables there hold the whole book.
use mathlib.Core.Path.{◌≡◌, refl, sym, ap, subst, ◌∙◌}
use mathlib.Core.List.{List, [], ◌∷◌, map}
use mathlib.Core.Logic.{◌⊎◌, inl, inr}
use Prim.Native.Nat.{ℕ, ◌+◌, ◌≤◌, ◌<◌}
use native.Mathlib.Omega.{arith}
use lib.ListN.{length, take, drop}
use Rattle.number.proofs.Numbers.{below_or}
use Rattle.line.specs.Text.{lines, Found}
use Rattle.line.specs.Line.{Content, rule, node, step, states, slot, Line, bad, wrong, right, parse}
use Rattle.book.specs.Book.{Book, last_of, stands, fault, add, add_line, accepted, read_on}
use Rattle.reader.specs.BookTables.{BookTables, over, cells, written}
use Rattle.reader.specs.Answer.{Roomy}
use Rattle.reader.specs.FillingPass.{LineRoom, LinePut, RoomFor, LeftBy, Fillable, FilledTables}
use Rattle.reader.specs.declared.fill.Tally.{Tally}
use Rattle.reader.proofs.Sounds.{Passed, PassedLine, passed, sane}
use Rattle.reader.proofs.Runs.{roomy_is, Tallied, tables_eq, Long, written_long, room_by, line_after, accepted_inj, unless_none}
use Rattle.reader.proofs.BookSteps.{begun, later, ends}
use Rattle.reader.proofs.Reaching.{Reach, reach_first, reach_on, reach_end, line_passed, passed_as, next_lines, next_on, next_reach}

-- ---- the bytes before the step lines
head_grows : (n : ℕ) (b : Book) (l : Line) → b.head ≤ (add_line n b l).head
unfolding add
head_grows n b bad = omega arith
head_grows n b (wrong o f) = omega arith
head_grows n b (right (rule l k)) = omega arith
head_grows n b (right (node op v)) = omega arith
head_grows n b (right (step u w)) = omega arith
head_grows n b (right (states c)) = omega arith
head_grows n b (right (slot l w)) = omega arith

head_later : (b c : Book) (k : ℕ) (ls : List (List ℕ)) → read_on b k ls ≡ accepted c → b.head ≤ c.head
unfolding read_on
head_later b c k [] e = omega (arith, ap (λ (x : Book). x.head) (ends b c k e))
head_later b c k (l ∷ ls) e =
    let (o, a) = unless_none (fault b (parse l)) k _ c e in
    omega (arith, head_grows (length l + 1) b (parse l), head_later (add_line (length l + 1) b (parse l)) c (k + 1) ls a)

-- c has the rules and nodes of b
pub record Same (b c : Book) : Type 0 where
  pub labels : b.labels ≡ c.labels
  pub kinds : b.kinds ≡ c.kinds
  pub firsts : b.firsts ≡ c.firsts
  pub counts : b.counts ≡ c.counts
  pub ops : b.ops ≡ c.ops
  pub nums : b.nums ≡ c.nums

same_written : (b c : Book) (t : BookTables) → Same b c → written b t ≡ written c t
unfolding written
same_written b c t p =
    tables_eq (written b t) (written c t)
    (ap (λ (x : List (List ℕ)). cells x t.labels) p.labels)
    (ap (λ (x : List (List ℕ)). over (map length x) t.lens) p.labels)
    (ap (λ (x : List ℕ). over x t.kinds) p.kinds)
    (ap (λ (x : List ℕ). over x t.firsts) p.firsts)
    (ap (λ (x : List ℕ). over x t.counts) p.counts)
    (ap (λ (x : List ℕ). over x t.ops) p.ops)
    (ap (λ (x : List ℕ). over x t.nums) p.nums)

-- lines that no more bytes stand before add neither rules nor nodes
rest_same : (b c : Book) (k : ℕ) (ls : List (List ℕ)) → read_on b k ls ≡ accepted c → c.head ≤ b.head → Same b c
unfolding read_on add
rest_same b c k [] e h =
    subst (Same b) (ends b c k e) (record { labels = refl; kinds = refl; firsts = refl; counts = refl; ops = refl; nums = refl })
rest_same b c k (l ∷ ls) e h =
    let (o, a) = unless_none (fault b (parse l)) k _ c e in
    go (parse l) (passed b (parse l) o).content (passed b (parse l) o).is a (λ (d : Book) (x : read_on d (k + 1) ls ≡ accepted c). rest_same d c (k + 1) ls x)
  where
    go : (p : Line) (q : Content) → p ≡ right q → read_on (add_line (length l + 1) b p) (k + 1) ls ≡ accepted c
        → ((d : Book) → read_on d (k + 1) ls ≡ accepted c → c.head ≤ d.head → Same d c)
        → Same b c
    go p q z a ih = by q (subst (λ (x : Line). read_on (add_line (length l + 1) b x) (k + 1) ls ≡ accepted c) z a)
      where
        by : (q : Content) → read_on (add (length l + 1) b q) (k + 1) ls ≡ accepted c → Same b c
        by (rule x y) a = absurd (omega (arith, head_later (add (length l + 1) b (rule x y)) c (k + 1) ls a))
        by (node x y) a = absurd (omega (arith, head_later (add (length l + 1) b (node x y)) c (k + 1) ls a))
        by (step x y) a =
            let s : Same (add (length l + 1) b (step x y)) c = ih (add (length l + 1) b (step x y)) a h in
            record { labels = s.labels; kinds = s.kinds; firsts = s.firsts; counts = s.counts; ops = s.ops; nums = s.nums }
        by (states x) a = absurd (omega (arith, head_later (add (length l + 1) b (states x)) c (k + 1) ls a))
        by (slot x y) a = absurd (omega (arith, head_later (add (length l + 1) b (slot x y)) c (k + 1) ls a))

-- a line before the place where the steps begin is none
head_on : (n : ℕ) (b c : Book) (k : ℕ) (ls : List (List ℕ)) (q : Content) → Passed b q → read_on (add n b q) k ls ≡ accepted c → b.head < c.head → (add n b q).head ≡ b.head + n
unfolding add stands
head_on n b c k ls (rule x y) p a h = refl
head_on n b c k ls (node x y) p a h = refl
head_on n b c k ls (states x) p a h = refl
head_on n b c k ls (slot x y) p a h = refl
head_on n b c k ls (step x y) p a h = absurd (omega (arith, (later (add n b (step x y)) c k ls (begun n b x y p) a).0))

-- ---- the loop
pub record FillRun (text : List ℕ) (head : ℕ) (t₀ t : BookTables) (f : Tally) (at : ℕ) : Type 0 where
  pub ready : Fillable text head t₀
  pub reach : Reach text ready.book at
  pub laid : t ≡ written reach.book t₀
  pub long : Long t₀ t
  pub tallied : Tallied reach.book f
  pub here : reach.book.head ≡ at

pub fill_first : (text : List ℕ) (head : ℕ) (t : BookTables) → Fillable text head t → FillRun text head t t (record { rules = 0; nodes = 0; own = 0 }) 0
unfolding written over cells last_of
fill_first text head t h = record {
  ready = h;
  reach = reach_first text h.book h.is;
  laid = refl;
  long = record { labels = refl; lens = refl; kinds = refl; firsts = refl; counts = refl; ops = refl; nums = refl };
  tallied = record { rules = refl; nodes = refl; own = refl };
  here = refl;
}

module _ (text : List ℕ) (head : ℕ) (t₀ t : BookTables) (f : Tally) (at : ℕ) (v : FillRun text head t₀ t f at) where
  abbrev final : Book
  final = v.ready.book

  abbrev b : Book
  b = v.reach.book

  pub fill_end : head ≤ at → FilledTables text t₀ t
  fill_end h =
      let same : Same b final = rest_same b final v.reach.line (lines (drop at text)) (reach_on text final at v.reach) (omega (arith, v.ready.begin, v.here)) in
      record { is = λ c x. v.laid ∙ same_written b final t₀ same ∙ ap (λ (y : Book). written y t₀) (accepted_inj (sym v.ready.is ∙ x)) }

  pub fill_inside : at < head → at < length text
  fill_inside h = go (below_or at (length text))
    where
      go : ◌⊎◌ (at < length text) (length text ≤ at) → at < length text
      go (inl k) = k
      go (inr k) = absurd (omega (arith, ap (λ (x : Book). x.head) (reach_end text final at v.reach k), v.ready.begin, v.here))

  pub fill_past : at < head → at ≤ length text
  fill_past h = omega (arith, fill_inside h)

  module _ (rest : List ℕ) (n : ℕ) (h : at < head) (e : rest ≡ drop at text) (g : Found 10 rest n) where
    module _ (first : List ℕ) (e' : first ≡ take n rest) where
      abbrev passed_line : PassedLine b (parse first)
      passed_line = line_passed text final at v.reach rest n (fill_inside h) e g first e'

      pub fill_room : LineRoom first t f
      fill_room = record {
        room = λ c q.
            subst (λ (x : BookTables). RoomFor c x f) (sym v.laid)
            (room_by b t₀ v.reach.sound (roomy_is t₀ v.ready.room) f c v.tallied (sane first c q) (passed_as text final at v.reach rest n (fill_inside h) e g first e' c q));
      }

      pub fill_next : (t' : BookTables) (f' : Tally) → LinePut first t f t' f' → FillRun text head t₀ t' f' (at + (n + 1))
      fill_next t' f' p =
          let c : Content = passed_line.content in
          let q : parse first ≡ right c = passed_line.is in
          let r : Reach text final (at + (n + 1)) = next_reach text final at v.reach rest n (fill_inside h) e g first e' in
          let roomy : Roomy t₀ = roomy_is t₀ v.ready.room in
          let left : LeftBy c (written b t₀) f t' f' = subst (λ (z : BookTables). LeftBy c z f t' f') v.laid (p.left c q) in
          let (x, y) = line_after b t₀ v.reach.sound roomy (n + 1) f f' t' v.tallied c (sane first c q) passed_line.passed left in
          record {
            ready = v.ready;
            reach = r;
            laid = x;
            long = subst (Long t₀) (sym x) (written_long r.book t₀ r.sound roomy);
            tallied = y;
            here =
                head_on (n + 1) b final (v.reach.line + 1) (next_lines text final at v.reach rest n (fill_inside h) e g first e') c passed_line.passed
                (next_on text final at v.reach rest n (fill_inside h) e g first e') (omega (arith, v.ready.begin, v.here))
                ∙ ap (λ (i : ℕ). i + (n + 1)) v.here;
          }
