-- An accepted book's rules are formulas: what holds of the rules read so far, and the proof of the theorem of RulesOfBook.antt.
use mathlib.Core.Path.{◌≡◌, refl, sym, ap, ap₂, subst, ◌∙◌}
use mathlib.Core.Bool.{Bool, true, false, ◌&&◌}
use mathlib.Core.List.{List, [], ◌∷◌, ◌++◌}
use mathlib.Core.Option.{some}
use Prim.Native.Nat.{ℕ, zero, suc, ◌+◌, ◌≤◌, ◌<◌}
use native.Mathlib.Omega.{arith}
use native.Mathlib.Numerals.{add-one}
use lib.ListN.{length, get_or, take, drop, length-append, length-drop, get_or-append}
use lib.Seq.{drop-cons, drop-append-le, take-append-le, length-take-le}
use Rattle.terms.specs.Choice.{pick}
use Rattle.formula.specs.Tree.{unknown, size, prefix}
use Rattle.formula.specs.Spells.{run}
use Rattle.formula.specs.Formula.{Formula, Node, node}
use Rattle.formula.specs.Table.{node_at, rule_of, Rule}
use Rattle.formula.proofs.Trees.{run_spells, prefix_length}
use Rattle.formula.proofs.Rules.{rule_of_lem}
use Rattle.line.specs.Text.{lines}
use Rattle.line.specs.Line.{Content, rule, step, states, slot, Line, right, parse}
use Rattle.line.specs.Line as spec
use Rattle.line.proofs.Sane.{Sane, NodeSane}
use Rattle.book.specs.Book.{Book, StepLine, empty, is_nil, whole, head_of, last_of, bump, spend, fault, add, add_line, accepted, refused, read_on, read}
use Rattle.std.specs.Prelude.{Option as Opt}
use Rattle.std.specs.Prelude.{Some}
use Rattle.reader.specs.BookTables.{BookTables, SlotTables, over, written, roomy, roomy_slots, read_into}
use Rattle.reader.proofs.Sounds.{Passed, PassedLine, passed, sane, nodes_left, node_inside, Sound, sound_empty, sound_add}
use Rattle.reader.proofs.Runs.{accepted_lines, accepted_inj, unless_none}
use Rattle.book_laws.proofs.Formulas.{Formulated, Opens, opens_first, opens_done, opens_node}

-- ---- the formula table as a list of nodes
pub toks : List ℕ → List ℕ → List Node
toks [] nums = []
toks (op ∷ ops) [] = []
toks (op ∷ ops) (v ∷ nums) = node op v ∷ toks ops nums

toks_long : (ops nums : List ℕ) → length nums ≡ length ops → length (toks ops nums) ≡ length ops
unfolding toks
toks_long [] nums e = refl
toks_long (op ∷ ops) [] e = absurd (omega arith)
toks_long (op ∷ ops) (v ∷ nums) e = ap suc (toks_long ops nums (omega arith))

toks_snoc : (ops nums : List ℕ) (op v : ℕ) → length nums ≡ length ops → toks (ops ++ op ∷ []) (nums ++ v ∷ []) ≡ toks ops nums ++ node op v ∷ []
unfolding toks
toks_snoc [] [] op v e = refl
toks_snoc [] (y ∷ nums) op v e = absurd (omega arith)
toks_snoc (x ∷ ops) [] op v e = absurd (omega arith)
toks_snoc (x ∷ ops) (y ∷ nums) op v e = ap (node x y ∷◌) (toks_snoc ops nums op v (omega arith))

toks_at : (ops nums : List ℕ) (i : ℕ) → length nums ≡ length ops → i < length ops → get_or (toks ops nums) i unknown ≡ node (get_or ops i 0) (get_or nums i 0)
unfolding toks
toks_at [] nums i e h = absurd (omega arith)
toks_at (op ∷ ops) [] i e h = absurd (omega arith)
toks_at (op ∷ ops) (v ∷ nums) zero e h = refl
toks_at (op ∷ ops) (v ∷ nums) (suc i) e h = toks_at ops nums i (omega arith) (omega arith)

run_toks : (ops nums x y : List ℕ) (i n : ℕ) → length nums ≡ length ops → i + n ≤ length ops → run (node_at (ops ++ x) (nums ++ y)) i n ≡ take n (drop i (toks ops nums))
unfolding run node_at
run_toks ops nums x y i zero e h = refl
run_toks ops nums x y i (suc n) e h =
    let inside : i < length ops = omega arith in
    let long : i < length (toks ops nums) = subst (λ (k : ℕ). i < k) (sym (toks_long ops nums e)) inside in
    ap₂ ◌∷◌
    (ap₂ node (get_or-append ops x 0 i inside) (get_or-append nums y 0 i (subst (λ (k : ℕ). i < k) (sym e) inside)) ∙ sym (toks_at ops nums i e inside))
    (run_toks ops nums x y (i + 1) n e (omega arith) ∙ ap (λ (k : ℕ). take n (drop k (toks ops nums))) (add-one i))
    ∙ sym (ap (take (suc n)) (drop-cons (toks ops nums) i unknown long))

-- ---- the rules that are whole
pub record IsRule (ts : List Node) (first count : ℕ) : Type 0 where
  pub few : count ≤ 256
  pub inside : first + count ≤ length ts
  pub formulated : Formulated (take count (drop first ts))

pub AllRules : List Node → List ℕ → List ℕ → Type 0
AllRules ts [] [] = Unit
AllRules ts [] (c ∷ cs) = ⊥
AllRules ts (f ∷ fs) [] = ⊥
AllRules ts (f ∷ fs) (c ∷ cs) = IsRule ts f c × AllRules ts fs cs

is_more : (ts more : List Node) (f c : ℕ) → IsRule ts f c → IsRule (ts ++ more) f c
is_more ts more f c r = record {
  few = r.few;
  inside = omega (arith, r.inside, length-append ts more);
  formulated = subst Formulated (sym (ap (take c) (drop-append-le f ts more (omega (arith, r.inside))) ∙ take-append-le c (drop f ts) more (omega (arith, r.inside, length-drop f ts)))) r.formulated;
}

all_more : (ts more : List Node) (fs cs : List ℕ) → AllRules ts fs cs → AllRules (ts ++ more) fs cs
unfolding AllRules
all_more ts more [] [] a = tt
all_more ts more [] (c ∷ cs) a = a
all_more ts more (f ∷ fs) [] a = a
all_more ts more (f ∷ fs) (c ∷ cs) a = (is_more ts more f c a.0, all_more ts more fs cs a.1)

all_snoc : (ts : List Node) (fs cs : List ℕ) (f c : ℕ) → AllRules ts fs cs → IsRule ts f c → AllRules ts (fs ++ f ∷ []) (cs ++ c ∷ [])
unfolding AllRules
all_snoc ts [] [] f c a r = (r, tt)
all_snoc ts [] (d ∷ cs) f c a r = absurd a
all_snoc ts (g ∷ fs) [] f c a r = absurd a
all_snoc ts (g ∷ fs) (d ∷ cs) f c a r = (a.0, all_snoc ts fs cs f c a.1 r)

all_at : (ts : List Node) (fs cs : List ℕ) (k : ℕ) → AllRules ts fs cs → k < length fs → IsRule ts (get_or fs k 0) (get_or cs k 0)
unfolding AllRules
all_at ts [] cs k a h = absurd (omega arith)
all_at ts (f ∷ fs) [] k a h = absurd a
all_at ts (f ∷ fs) (c ∷ cs) zero a h = a.0
all_at ts (f ∷ fs) (c ∷ cs) (suc k) a h = all_at ts fs cs k a.1 (omega arith)

-- ---- the rules stand one behind the other: from a place on, up to an end
pub Stacked : ℕ → ℕ → List ℕ → List ℕ → Type 0
Stacked a e [] [] = a ≡ e
Stacked a e [] (c ∷ cs) = ⊥
Stacked a e (f ∷ fs) [] = ⊥
Stacked a e (f ∷ fs) (c ∷ cs) = (f ≡ a) × Stacked (a + c) e fs cs

stacked_snoc : (a f c : ℕ) (fs cs : List ℕ) → Stacked a f fs cs → Stacked a (f + c) (fs ++ f ∷ []) (cs ++ c ∷ [])
unfolding Stacked
stacked_snoc a f c [] [] s = (sym s, ap (λ (n : ℕ). n + c) s)
stacked_snoc a f c [] (d ∷ cs) s = absurd s
stacked_snoc a f c (g ∷ fs) [] s = absurd s
stacked_snoc a f c (g ∷ fs) (d ∷ cs) s = (s.0, stacked_snoc (a + d) f c fs cs s.1)

pub stacked_sum : (a e : ℕ) (fs cs : List ℕ) → Stacked a e fs cs → a ≤ e
unfolding Stacked
stacked_sum a e [] [] s = omega (arith, s)
stacked_sum a e [] (c ∷ cs) s = absurd s
stacked_sum a e (f ∷ fs) [] s = absurd s
stacked_sum a e (f ∷ fs) (c ∷ cs) s = omega (arith, stacked_sum (a + c) e fs cs s.1)

-- the next rule's first place is where a rule ends
pub stacked_next : (a e : ℕ) (fs cs : List ℕ) (r : ℕ) → Stacked a e fs cs → r + 1 < length fs → get_or fs r 0 + get_or cs r 0 ≡ get_or fs (r + 1) 0
unfolding Stacked
stacked_next a e [] cs r s h = absurd (omega arith)
stacked_next a e (f ∷ fs) [] r s h = absurd s
stacked_next a e (f ∷ []) (c ∷ cs) r s h = absurd (omega arith)
stacked_next a e (f ∷ g ∷ fs) (c ∷ []) r s h = absurd s.1
stacked_next a e (f ∷ g ∷ fs) (c ∷ d ∷ cs) zero s h = ap (λ (n : ℕ). n + c) s.0 ∙ sym s.1.0
stacked_next a e (f ∷ g ∷ fs) (c ∷ d ∷ cs) (suc r) s h =
    let z : suc r + 1 ≡ suc (r + 1) = omega arith in
    stacked_next (a + c) e (g ∷ fs) (d ∷ cs) r s.1 (omega arith) ∙ sym (ap (λ (n : ℕ). get_or (f ∷ g ∷ fs) n 0) z)

-- and every rule ends by the end
pub stacked_inside : (a e : ℕ) (fs cs : List ℕ) (r : ℕ) → Stacked a e fs cs → r < length fs → get_or fs r 0 + get_or cs r 0 ≤ e
unfolding Stacked
stacked_inside a e [] cs r s h = absurd (omega arith)
stacked_inside a e (f ∷ fs) [] r s h = absurd s
stacked_inside a e (f ∷ fs) (c ∷ cs) zero s h = omega (arith, s.0, stacked_sum (a + c) e fs cs s.1)
stacked_inside a e (f ∷ fs) (c ∷ cs) (suc r) s h = stacked_inside (a + c) e fs cs r s.1 (omega arith)

-- ---- the book so far: whole rules, and at most one in hand
abbrev nodes_of : Book → List Node
nodes_of b = toks b.ops b.nums

pub record Whole (b : Book) : Type 0 where
  pub none_due : b.due ≡ []
  pub rules : AllRules (nodes_of b) b.firsts b.counts
  pub stacked : Stacked 0 (length b.ops) b.firsts b.counts

pub record InHand (b : Book) : Type 0 where
  pub some_due : is_nil b.due ≡ false
  pub firsts : List ℕ
  pub counts : List ℕ
  pub first : ℕ
  pub own : ℕ
  pub firsts_is : b.firsts ≡ firsts ++ first ∷ []
  pub counts_is : b.counts ≡ counts ++ own ∷ []
  pub ends : first + own ≡ length b.ops
  pub rules : AllRules (nodes_of b) firsts counts
  pub stacked : Stacked 0 first firsts counts
  pub opens : Opens (drop first (nodes_of b)) b.due

abbrev Ruled : Book → Type 0
Ruled b = mathlib.Core.Logic.◌⊎◌ (Whole b) (InHand b)

ruled_empty : Ruled empty
unfolding AllRules toks Stacked
ruled_empty = mathlib.Core.Logic.inl (record { none_due = refl; rules = tt; stacked = refl })

pub bump_snoc : (cs : List ℕ) (c : ℕ) → bump (cs ++ c ∷ []) ≡ cs ++ suc c ∷ []
unfolding bump
bump_snoc [] c = refl
bump_snoc (a ∷ []) c = refl
bump_snoc (a ∷ b ∷ r) c = ap (a ∷◌) (bump_snoc (b ∷ r) c)

last_of_lem : (cs : List ℕ) (c : ℕ) → last_of (cs ++ c ∷ []) ≡ c
last_of_lem = Rattle.book.proofs.States.last_snoc

false_true : {A : Type 0} → true ≡ false → A
false_true e = let z : ◌≡◌ {A = ℕ} 0 1 = cc in absurd (omega arith)

whole_nil : (b : Book) → is_nil b.due ≡ true → Ruled b → Whole b
whole_nil b h (mathlib.Core.Logic.inl w) = w
whole_nil b h (mathlib.Core.Logic.inr i) = false_true (sym h ∙ i.some_due)

hand_in : (b : Book) → is_nil b.due ≡ false → Ruled b → InHand b
hand_in b h (mathlib.Core.Logic.inl w) = false_true (ap is_nil (sym w.none_due) ∙ h)
hand_in b h (mathlib.Core.Logic.inr i) = i

rule_ruled : (n : ℕ) (b : Book) (l : List ℕ) (k : ℕ) → Sound b → Whole b → Ruled (add n b (rule l k))
unfolding add
rule_ruled n b l k s w = mathlib.Core.Logic.inr (record {
  some_due = refl;
  firsts = b.firsts;
  counts = b.counts;
  first = length b.ops;
  own = 0;
  firsts_is = refl;
  counts_is = refl;
  ends = omega arith;
  rules = w.rules;
  stacked = w.stacked;
  opens = subst (λ (x : List Node). Opens x (1 ∷ [])) (sym (drop_all (nodes_of b) (length b.ops) (toks_long b.ops b.nums s.nums_long))) opens_first;
})
  where
    drop_all : (x : List Node) (m : ℕ) → length x ≡ m → drop m x ≡ []
    drop_all x m e = lib.ListN.drop_of_length-le x {i = m} (omega arith)

-- the due places are not empty: the first one
split_due : (d : List ℕ) → is_nil d ≡ false → (h : ℕ) × (r : List ℕ) × (d ≡ h ∷ r)
split_due [] e = false_true e
split_due (h ∷ r) e = (h, r, refl)

node_ruled : (n : ℕ) (b : Book) (op v : ℕ) → Sound b → InHand b → NodeSane op v → Passed b (spec.node op v) → Ruled (add n b (spec.node op v))
unfolding add
node_ruled n b op v s i ok p =
    let (lo, less, deep) = nodes_left b op v p in
    let (d, r, e) = split_due b.due i.some_due in
    let low : d ≤ 64 = subst (λ (x : List ℕ). head_of x ≤ 64) e deep in
    let ts : List Node = nodes_of b in
    let long : length ts ≡ length b.ops = toks_long b.ops b.nums s.nums_long in
    let next : toks (b.ops ++ op ∷ []) (b.nums ++ v ∷ []) ≡ ts ++ node op v ∷ [] = toks_snoc b.ops b.nums op v s.nums_long in
    let cut : drop i.first (ts ++ node op v ∷ []) ≡ drop i.first ts ++ node op v ∷ [] = drop-append-le i.first ts (node op v ∷ []) (omega (arith, i.ends)) in
    let opened : Opens (drop i.first ts ++ node op v ∷ []) (spend op (d ∷ r)) = opens_node (drop i.first ts) d r op v (subst (Opens (drop i.first ts)) e i.opens) low ok in
    let opens : Opens (drop i.first (toks (b.ops ++ op ∷ []) (b.nums ++ v ∷ []))) (spend op b.due) = subst (λ (x : List ℕ). Opens (drop i.first (toks (b.ops ++ op ∷ []) (b.nums ++ v ∷ []))) (spend op x)) (sym e) (subst (λ (x : List Node). Opens (drop i.first x) (spend op (d ∷ r))) (sym next) (subst (λ (x : List Node). Opens x (spend op (d ∷ r))) (sym cut) opened)) in
    let rules : AllRules (toks (b.ops ++ op ∷ []) (b.nums ++ v ∷ [])) i.firsts i.counts = subst (λ (x : List Node). AllRules x i.firsts i.counts) (sym next) (all_more ts (node op v ∷ []) i.firsts i.counts i.rules) in
    let counts : bump b.counts ≡ i.counts ++ suc i.own ∷ [] = ap bump i.counts_is ∙ bump_snoc i.counts i.own in
    let own : i.own < 256 = subst (λ (x : ℕ). x < 256) (ap last_of i.counts_is ∙ last_of_lem i.counts i.own) lo in
    let size : length (b.ops ++ op ∷ []) ≡ length b.ops + 1 = length-append b.ops (op ∷ []) in
    let new-long : length (toks (b.ops ++ op ∷ []) (b.nums ++ v ∷ [])) ≡ length b.ops + 1 = ap length next ∙ length-append ts (node op v ∷ []) ∙ ap (λ (x : ℕ). x + 1) long in
    go (add n b (spec.node op v)) i.first i.own i.firsts i.counts (spend op b.due) refl i.firsts_is counts (size ∙ omega (arith, i.ends)) own (new-long ∙ omega (arith, i.ends)) rules i.stacked opens
  where
    go : (c : Book) (first own : ℕ) (fs cs due : List ℕ) → c.due ≡ due → c.firsts ≡ fs ++ first ∷ [] → c.counts ≡ cs ++ suc own ∷ [] → length c.ops ≡ first + suc own → own < 256 → length (nodes_of c) ≡ first + suc own → AllRules (nodes_of c) fs cs → Stacked 0 first fs cs → Opens (drop first (nodes_of c)) due → Ruled c
    go c first own fs cs [] d f k l o m a u w = mathlib.Core.Logic.inl (record {
      none_due = d;
      rules = subst (λ (x : List ℕ). AllRules (nodes_of c) x c.counts) (sym f) (subst (λ (x : List ℕ). AllRules (nodes_of c) (fs ++ first ∷ []) x) (sym k) (all_snoc (nodes_of c) fs cs first (suc own) a (record {
        few = o;
        inside = omega arith;
        formulated = subst Formulated (sym (lib.Seq.take_all (suc own) (drop first (nodes_of c)) (omega (arith, length-drop first (nodes_of c))))) (opens_done (drop first (nodes_of c)) w);
      })));
      stacked = subst (λ (n : ℕ). Stacked 0 n c.firsts c.counts) (sym l) (subst (λ (x : List ℕ). Stacked 0 (first + suc own) x c.counts) (sym f) (subst (Stacked 0 (first + suc own) (fs ++ first ∷ [])) (sym k) (stacked_snoc 0 first (suc own) fs cs u)));
    })
    go c first own fs cs (h ∷ r) d f k l o m a u w = mathlib.Core.Logic.inr (record {
      some_due = ap is_nil d;
      firsts = fs;
      counts = cs;
      first = first;
      own = suc own;
      firsts_is = f;
      counts_is = k;
      ends = sym l;
      rules = a;
      stacked = u;
      opens = subst (Opens (drop first (nodes_of c))) (sym d) w;
    })

-- a line that is no rule and no node leaves the rules as they are
others_ruled : (b : Book) (ss : List StepLine) (h : ℕ) (m : Opt ℕ) (ns : List (List ℕ)) (ws : List ℕ) → Ruled b → Ruled (record {
  labels = b.labels;
  kinds = b.kinds;
  firsts = b.firsts;
  counts = b.counts;
  ops = b.ops;
  nums = b.nums;
  steps = ss;
  due = b.due;
  head = h;
  states = m;
  names = ns;
  widths = ws;
})
others_ruled b ss h m ns ws (mathlib.Core.Logic.inl x) = mathlib.Core.Logic.inl (record { none_due = x.none_due; rules = x.rules; stacked = x.stacked })
others_ruled b ss h m ns ws (mathlib.Core.Logic.inr x) = mathlib.Core.Logic.inr (record { some_due = x.some_due; firsts = x.firsts; counts = x.counts; first = x.first; own = x.own; firsts_is = x.firsts_is; counts_is = x.counts_is; ends = x.ends; rules = x.rules; stacked = x.stacked; opens = x.opens })

ruled_by : (n : ℕ) (b : Book) (c : Content) → Sound b → Ruled b → Sane c → Passed b c → Ruled (add n b c)
unfolding add Rattle.book.specs.Book.stands
ruled_by n b (rule l m) s r k p = rule_ruled n b l m s (whole_nil b (Rattle.reader.proofs.Sounds.both {a = whole b} {b = is_nil b.steps} p.here).0 r)
ruled_by n b (spec.node op v) s r k p = node_ruled n b op v s (hand_in b (node_inside b op v p) r) k p
ruled_by n b (step u w) s r k p = others_ruled b (b.steps ++ record { number = u; truths = w } ∷ []) b.head b.states b.names b.widths r
ruled_by n b (states c) s r k p = others_ruled b b.steps (b.head + n) (Some c) b.names b.widths r
ruled_by n b (slot l w) s r k p = others_ruled b b.steps (b.head + n) b.states (b.names ++ l ∷ []) (b.widths ++ w ∷ []) r

-- ---- kinds: 0 or 1
abbrev pub Kinded : List ℕ → Type 0
Kinded [] = Unit
Kinded (k ∷ ks) = (k < 2) × Kinded ks

kinded_snoc : (ks : List ℕ) (k : ℕ) → Kinded ks → k < 2 → Kinded (ks ++ k ∷ [])
kinded_snoc [] k s h = (h, tt)
kinded_snoc (j ∷ ks) k s h = (s.0, kinded_snoc ks k s.1 h)

kinded_by : (n : ℕ) (b : Book) (c : Content) → Kinded b.kinds → Sane c → Kinded (add n b c).kinds
unfolding add
kinded_by n b (rule l k) s h = kinded_snoc b.kinds k s h.kind
kinded_by n b (spec.node op v) s h = s
kinded_by n b (step u w) s h = s
kinded_by n b (states c) s h = s
kinded_by n b (slot l w) s h = s

-- ---- the fold
pub record Done (c : Book) : Type 0 where
  pub sound : Sound c
  pub rules : AllRules (nodes_of c) c.firsts c.counts
  pub stacked : Stacked 0 (length c.ops) c.firsts c.counts
  pub kinds : Kinded c.kinds

accepted_refused : {B : Type 0} {b : Book} {n k : ℕ} → refused n k ≡ accepted b → B
accepted_refused e = let z : ◌≡◌ {A = ℕ} 0 1 = cc in absurd (omega arith)

ruled_all : (b c : Book) (k : ℕ) (ls : List (List ℕ)) → Sound b → Ruled b → Kinded b.kinds → read_on b k ls ≡ accepted c → Done c
unfolding read_on
ruled_all b c k [] s r kd e = go (whole b) refl e
  where
    go : (t : Bool) → whole b ≡ t → pick t (accepted b) (refused 10 k) ≡ accepted c → Done c
    go true w e = subst Done (accepted_inj e) (record { sound = s; rules = (whole_nil b w r).rules; stacked = (whole_nil b w r).stacked; kinds = kd })
    go false w e = accepted_refused e
ruled_all b c k (l ∷ ls) s r kd e =
    let (o, a) = unless_none (fault b (parse l)) k _ c e in
    let p : PassedLine b (parse l) = passed b (parse l) o in
    let n : ℕ = length l + 1 in
    let h : Sane p.content = sane l p.content p.is in
    let back : parse l ≡ right p.content = p.is in
    ruled_all (add_line n b (parse l)) c (k + 1) ls (sound_add n b l s o)
    (subst (λ (x : Line). Ruled (add_line n b x)) (sym back) (ruled_by n b p.content s r h p.passed))
    (subst (λ (x : Line). Kinded (add_line n b x).kinds) (sym back) (kinded_by n b p.content kd h)) a

pub accepted_done : (text : List ℕ) (b : Book) → read text ≡ accepted b → Done b
accepted_done text b e = ruled_all empty b 0 (lines text) sound_empty ruled_empty tt (accepted_lines text b e)

-- ---- a rule's formula, in the book's own formula table and with anything behind it
module _ (b : Book) (d : Done b) (k : ℕ) (h : k < length b.labels) where
  in_firsts : k < length b.firsts
  in_firsts = subst (λ (n : ℕ). k < n) (sym d.sound.firsts_long) h

  is_rule : IsRule (nodes_of b) (get_or b.firsts k 0) (get_or b.counts k 0)
  is_rule = all_at (nodes_of b) b.firsts b.counts k d.rules in_firsts

  pub formula_at : Formula
  formula_at = is_rule.formulated.formula

  pub rule_at_lem : (x y : List ℕ) → Rule (b.ops ++ x) (b.nums ++ y) (get_or b.firsts k 0) (get_or b.counts k 0) formula_at
  unfolding formula_at
  rule_at_lem x y =
      let s : Sound b = d.sound in
      let u : IsRule (nodes_of b) (get_or b.firsts k 0) (get_or b.counts k 0) = is_rule in
      let first : ℕ = get_or b.firsts k 0 in
      let count : ℕ = get_or b.counts k 0 in
      let f : Formula = u.formulated.formula in
      let long : length (nodes_of b) ≡ length b.ops = toks_long b.ops b.nums s.nums_long in
      let inside : first + count ≤ length b.ops = subst (λ (n : ℕ). first + count ≤ n) long u.inside in
      let ran : run (node_at (b.ops ++ x) (b.nums ++ y)) first count ≡ prefix f = run_toks b.ops b.nums x y first count s.nums_long inside ∙ u.formulated.is in
      let sized : size f ≡ count = sym (prefix_length f) ∙ ap length (sym u.formulated.is) ∙ length-take-le count (drop first (nodes_of b)) (omega (arith, length-drop first (nodes_of b), u.inside)) in
      record {
        few = u.few;
        table_holds = omega (arith, s.less);
        in_ops = omega (arith, length-append b.ops x);
        in_nums = omega (arith, length-append b.nums y, s.nums_long);
        spells = run_spells (node_at (b.ops ++ x) (b.nums ++ y)) first f (ap (run (node_at (b.ops ++ x) (b.nums ++ y)) first) sized ∙ ran);
        covers = sized;
        shallow = u.formulated.shallow;
        word_fits = u.formulated.word_fits;
      }

-- ---- in the tables
pub over_at : (xs l : List ℕ) (k : ℕ) → k < length xs → get_or (over xs l) k 0 ≡ get_or xs k 0
unfolding over
over_at xs l k h = get_or-append xs (drop (length xs) l) 0 k h

pub into_accepted : (text : List ℕ) (t : BookTables) (u : SlotTables) (b : Book) → read_into text t u ≡ accepted b → (roomy t ≡ true) × (read text ≡ accepted b) × (roomy_slots u ≡ true)
unfolding read_into
into_accepted text t u b e = go (roomy t) (roomy_slots u) e
  where
    go : (m n : Bool) → pick (m && n) (read text) (refused 1 0) ≡ accepted b → (m ≡ true) × (read text ≡ accepted b) × (n ≡ true)
    go true true e = (refl, e, refl)
    go true false e = accepted_refused e
    go false n e = accepted_refused e

pub rule_in_tables : (b : Book) (t : BookTables) (d : Done b) (k : ℕ) (h : k < length b.labels) → rule_of (written b t).ops (written b t).nums (get_or (written b t).firsts k 0) (get_or (written b t).counts k 0) ≡ some (formula_at b d k h)
unfolding written over
rule_in_tables b t d k h =
    let s : Sound b = d.sound in
    let ops : List ℕ = over b.ops t.ops in
    let nums : List ℕ = over b.nums t.nums in
    let first_is : get_or (over b.firsts t.firsts) k 0 ≡ get_or b.firsts k 0 = over_at b.firsts t.firsts k (subst (λ (n : ℕ). k < n) (sym s.firsts_long) h) in
    let count_is : get_or (over b.counts t.counts) k 0 ≡ get_or b.counts k 0 = over_at b.counts t.counts k (subst (λ (n : ℕ). k < n) (sym s.counts_long) h) in
    ap₂ (rule_of ops nums) first_is count_is
    ∙ rule_of_lem ops nums (get_or b.firsts k 0) (get_or b.counts k 0) (formula_at b d k h) (rule_at_lem b d k h (drop (length b.ops) t.ops) (drop (length b.nums) t.nums))

pub rules_of_book : (text : List ℕ) (t : BookTables) (u : SlotTables) (b : Book) → read_into text t u ≡ accepted b → (k : ℕ) → k < length b.labels → (f : Formula) × (rule_of (written b t).ops (written b t).nums (get_or (written b t).firsts k 0) (get_or (written b t).counts k 0) ≡ some f)
rules_of_book text t u b e k h =
    let (m, a, n) = into_accepted text t u b e in
    (formula_at b (accepted_done text b a) k h, rule_in_tables b t (accepted_done text b a) k h)
