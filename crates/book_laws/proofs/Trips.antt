-- Reading the lines of a list that is written out: the opening lines, a node, a formula, the rules, the steps.
use mathlib.Core.Path.{◌≡◌, refl, sym, ap, ap₂, subst, ◌∙◌}
use mathlib.Core.Bool.{Bool, true, false}
use mathlib.Core.List.{List, [], ◌∷◌, ◌++◌, map, append_assoc, append-nil}
use mathlib.Core.Option.{none}
use Prim.Native.Nat.{ℕ, suc, ◌+◌, ◌^◌, ◌≤◌, ◌<◌}
use native.Mathlib.Omega.{arith}
use native.Mathlib.Numerals.{add-one}
use borrow.Author.Tests.{lt-ltb, le-leb, leb-true}
use lib.ListN.{length, length-append}
use Rattle.terms.specs.Choice.{pick}
use Rattle.formula.specs.Tree.{leaf, one, two, leaf_of, one_of, two_of, prefix, size, depth, all}
use Rattle.formula.specs.Formula.{Atom, Unary, Binary, Formula, Node, var, input, output, not, next, always, eventually, always_for, within, and, or, implies, until}
use Rattle.formula.specs.Table.{in_word}
use Rattle.formula.proofs.Trees.{prefix_length}
use Rattle.line.specs.Line.{Content, rule, step, states, slot, right, parse}
use Rattle.line.specs.Line as spec
use Rattle.book.specs.Book.{Book, StepLine, empty, is_nil, head_of, last_of, bump, spend, opening, stands, opens, first_fault, fault, add, accepted, refused, read_on}
use Rattle.book.specs.Book as books
use Rattle.std.specs.Prelude.{Option as Opt}
use Rattle.std.specs.Prelude.{None, Some}
use Rattle.book.proofs.States.{last_snoc}
use Rattle.book_laws.specs.Write.{RuleText, SlotText, OpeningText, op_of, num_of, node_text, head_text, step_text, states_lines, slot_text, opening_lines, rule_lines, CountLimited, SlotsLimited, OpeningLimited, name_of, width_of, Bounded, RuleLimited, RulesLimited, StepsLimited, nodes_of, firsts_from, label_of, kind_of, count_of}
use Rattle.book_laws.proofs.Texts.{AllFree}
use Rattle.book_laws.proofs.Reading.{TokenOk, node_line, node_free, head_line, head_free, step_line_lem, step_free, states_line_lem, states_free, slot_line_lem, slot_free}
use Rattle.book_laws.proofs.RuleLaws.{bump_snoc}

map_append : {A B : Type 0} (f : A → B) (x y : List A) → map f (x ++ y) ≡ map f x ++ map f y
map_append f [] y = refl
map_append f (a ∷ x) y = ap (f a ∷◌) (map_append f x y)

-- ---- some lines read, whatever follows
pub record Reach (b : Book) (k : ℕ) (ls : List (List ℕ)) (b' : Book) (k' : ℕ) : Type 0 where
  pub on : (rest : List (List ℕ)) → read_on b k (ls ++ rest) ≡ read_on b' k' rest

reach_one : (b : Book) (k : ℕ) (l : List ℕ) (c : Content) → parse l ≡ right c → fault b (right c) ≡ none → Reach b k (l ∷ []) (add (length l + 1) b c) (k + 1)
unfolding read_on
reach_one b k l c e f = record { on = λ rest. rw (e, f) refl }

reach_append : (b b₁ b₂ : Book) (k k₁ k₂ : ℕ) (x y : List (List ℕ)) → Reach b k x b₁ k₁ → Reach b₁ k₁ y b₂ k₂ → Reach b k (x ++ y) b₂ k₂
reach_append b b₁ b₂ k k₁ k₂ x y p q = record { on = λ rest. ap (read_on b k) (append_assoc x y rest) ∙ p.on (y ++ rest) ∙ q.on rest }

-- ---- one node
node_right : (b : Book) (op v : ℕ) → is_nil b.due ≡ false → last_of b.counts < 256 → length b.ops < 1024 → head_of b.due ≤ 64 → fault b (right (spec.node op v)) ≡ none
unfolding fault first_fault stands opens books.within
node_right b op v d m n p = rw (d, lt-ltb (last_of b.counts) 256 m, lt-ltb (length b.ops) 1024 n, le-leb (head_of b.due) 64 p) refl

-- c has the opening lines of b
pub record SameOpening (b c : Book) : Type 0 where
  pub states_are : c.states ≡ b.states
  pub names_are : c.names ≡ b.names
  pub widths_are : c.widths ≡ b.widths

opening_kept : (b : Book) → SameOpening b b
opening_kept b = record { states_are = refl; names_are = refl; widths_are = refl }

opening_then : (b c d : Book) → SameOpening b c → SameOpening c d → SameOpening b d
opening_then b c d p q = record { states_are = q.states_are ∙ p.states_are; names_are = q.names_are ∙ p.names_are; widths_are = q.widths_are ∙ p.widths_are }

-- the nodes read of the rule in hand, which had `own` before
pub record Grown (b : Book) (cs : List ℕ) (own : ℕ) (due : List ℕ) (ts : List Node) (b' : Book) : Type 0 where
  pub due_is : b'.due ≡ due
  pub counts_is : b'.counts ≡ cs ++ (own + length ts) ∷ []
  pub ops_is : b'.ops ≡ b.ops ++ map op_of ts
  pub nums_is : b'.nums ≡ b.nums ++ map num_of ts
  pub labels_is : b'.labels ≡ b.labels
  pub kinds_is : b'.kinds ≡ b.kinds
  pub firsts_is : b'.firsts ≡ b.firsts
  pub steps_is : b'.steps ≡ b.steps
  pub opening_is : SameOpening b b'

pub record TreeRead (b : Book) (k : ℕ) (cs : List ℕ) (own : ℕ) (due : List ℕ) (ts : List Node) : Type 0 where
  pub book : Book
  pub line : ℕ
  pub reach : Reach b k (map node_text ts) book line
  pub grown : Grown b cs own due ts book

node_read : (b : Book) (k : ℕ) (t : Node) (d : ℕ) (r cs : List ℕ) (own : ℕ) → TokenOk t → b.due ≡ d ∷ r → d ≤ 64 → b.counts ≡ cs ++ own ∷ [] → own < 256 → length b.ops < 1024 → TreeRead b k cs own (spend (op_of t) (d ∷ r)) (t ∷ [])
unfolding add
node_read b k t d r cs own ok e low c few less = record {
  book = add (length (node_text t) + 1) b (spec.node (op_of t) (num_of t));
  line = k + 1;
  reach = reach_one b k (node_text t) (spec.node (op_of t) (num_of t)) (node_line t ok) (node_right b (op_of t) (num_of t) (ap is_nil e) (subst (λ (x : ℕ). x < 256) (sym (ap last_of c ∙ last_snoc cs own)) few) less (subst (λ (x : List ℕ). head_of x ≤ 64) (sym e) low));
  grown = record {
    due_is = ap (spend (op_of t)) e;
    counts_is = ap bump c ∙ bump_snoc cs own ∙ ap (λ (x : ℕ). cs ++ x ∷ []) (sym (add-one own));
    ops_is = refl;
    nums_is = refl;
    labels_is = refl;
    kinds_is = refl;
    firsts_is = refl;
    steps_is = refl;
    opening_is = record { states_are = refl; names_are = refl; widths_are = refl };
  };
}

join : (b : Book) (k : ℕ) (cs : List ℕ) (own : ℕ) (due due' : List ℕ) (t u : List Node) (p : TreeRead b k cs own due t) → TreeRead p.book p.line cs (own + length t) due' u → TreeRead b k cs own due' (t ++ u)
join b k cs own due due' t u p q = record {
  book = q.book;
  line = q.line;
  reach = subst (λ (x : List (List ℕ)). Reach b k x q.book q.line) (sym (map_append node_text t u)) (reach_append b p.book q.book k p.line q.line (map node_text t) (map node_text u) p.reach q.reach);
  grown = record {
    due_is = q.grown.due_is;
    counts_is = q.grown.counts_is ∙ ap (λ (x : ℕ). cs ++ x ∷ []) (native.Mathlib.Nat.add_assoc own (length t) (length u) ∙ ap (λ (x : ℕ). own + x) (sym (length-append t u)));
    ops_is = q.grown.ops_is ∙ ap (λ (x : List ℕ). x ++ map op_of u) p.grown.ops_is ∙ append_assoc b.ops (map op_of t) (map op_of u) ∙ ap (λ (x : List ℕ). b.ops ++ x) (sym (map_append op_of t u));
    nums_is = q.grown.nums_is ∙ ap (λ (x : List ℕ). x ++ map num_of u) p.grown.nums_is ∙ append_assoc b.nums (map num_of t) (map num_of u) ∙ ap (λ (x : List ℕ). b.nums ++ x) (sym (map_append num_of t u));
    labels_is = q.grown.labels_is ∙ p.grown.labels_is;
    kinds_is = q.grown.kinds_is ∙ p.grown.kinds_is;
    firsts_is = q.grown.firsts_is ∙ p.grown.firsts_is;
    steps_is = q.grown.steps_is ∙ p.grown.steps_is;
    opening_is = opening_then b p.book q.book p.grown.opening_is q.grown.opening_is;
  };
}

map_length : (f : Node → ℕ) (ts : List Node) → length (map f ts) ≡ length ts
map_length f [] = refl
map_length f (t ∷ ts) = ap suc (map_length f ts)

grown_ops : (b : Book) (cs : List ℕ) (own : ℕ) (due : List ℕ) (ts : List Node) (b' : Book) → Grown b cs own due ts b' → length b'.ops ≡ length b.ops + length ts
grown_ops b cs own due ts b' g = ap length g.ops_is ∙ length-append b.ops (map op_of ts) ∙ ap (λ (x : ℕ). length b.ops + x) (map_length op_of ts)

-- ---- a formula
abbrev AllOk : List Node → Type 0
AllOk [] = Unit
AllOk (t ∷ ts) = TokenOk t × AllOk ts

ok_left : (t u : List Node) → AllOk (t ++ u) → AllOk t
ok_left [] u a = tt
ok_left (x ∷ t) u a = (a.0, ok_left t u a.1)

ok_right : (t u : List Node) → AllOk (t ++ u) → AllOk u
ok_right [] u a = a
ok_right (x ∷ t) u a = ok_right t u a.1

spend_leaf : (a : Atom) (d : ℕ) (r : List ℕ) → spend (op_of (leaf_of a)) (d ∷ r) ≡ r
unfolding spend
spend_leaf (var n) d r = refl
spend_leaf (input n) d r = refl
spend_leaf (output n) d r = refl

spend_one : (o : Unary) (d : ℕ) (r : List ℕ) → spend (op_of (one_of o)) (d ∷ r) ≡ suc d ∷ r
unfolding spend
spend_one not d r = refl
spend_one next d r = refl
spend_one always d r = refl
spend_one eventually d r = refl
spend_one (always_for n) d r = refl
spend_one (within n) d r = refl

spend_two : (o : Binary) (d : ℕ) (r : List ℕ) → spend (op_of (two_of o)) (d ∷ r) ≡ suc d ∷ suc d ∷ r
unfolding spend
spend_two and d r = refl
spend_two or d r = refl
spend_two implies d r = refl
spend_two until d r = refl

size_is : (f : Formula) → length (prefix f) ≡ size f
size_is f = prefix_length f

tree_read : (f : Formula) (b : Book) (k d : ℕ) (r cs : List ℕ) (own : ℕ) → AllOk (prefix f) → b.due ≡ d ∷ r → depth f + d ≤ 65 → b.counts ≡ cs ++ own ∷ [] → own + size f ≤ 256 → length b.ops + size f ≤ 1024 → TreeRead b k cs own r (prefix f)
unfolding prefix size depth
tree_read (leaf a) b k d r cs own ok e low c few less =
    subst (λ (x : List ℕ). TreeRead b k cs own x (leaf_of a ∷ [])) (spend_leaf a d r)
    (node_read b k (leaf_of a) d r cs own ok.0 e (omega arith) c (omega arith) (omega arith))
tree_read (one o t) b k d r cs own ok e low c few less =
    let p : TreeRead b k cs own (suc d ∷ r) (one_of o ∷ []) = subst (λ (x : List ℕ). TreeRead b k cs own x (one_of o ∷ [])) (spend_one o d r) (node_read b k (one_of o) d r cs own ok.0 e (omega arith) c (omega arith) (omega arith)) in
    join b k cs own (suc d ∷ r) r (one_of o ∷ []) (prefix t) p
    (tree_read t p.book p.line (suc d) r cs (own + 1) ok.1 p.grown.due_is (omega arith) p.grown.counts_is (omega arith) (omega (arith, grown_ops b cs own (suc d ∷ r) (one_of o ∷ []) p.book p.grown)))
tree_read (two o t u) b k d r cs own ok e low c few less =
    let p : TreeRead b k cs own (suc d ∷ suc d ∷ r) (two_of o ∷ []) = subst (λ (x : List ℕ). TreeRead b k cs own x (two_of o ∷ [])) (spend_two o d r) (node_read b k (two_of o) d r cs own ok.0 e (omega arith) c (omega arith) (omega arith)) in
    let q : TreeRead p.book p.line cs (own + 1) (suc d ∷ r) (prefix t) = tree_read t p.book p.line (suc d) (suc d ∷ r) cs (own + 1) (ok_left (prefix t) (prefix u) ok.1) p.grown.due_is (omega arith) p.grown.counts_is (omega arith) (omega (arith, grown_ops b cs own (suc d ∷ suc d ∷ r) (two_of o ∷ []) p.book p.grown)) in
    let pq : TreeRead b k cs own (suc d ∷ r) (two_of o ∷ prefix t) = join b k cs own (suc d ∷ suc d ∷ r) (suc d ∷ r) (two_of o ∷ []) (prefix t) p q in
    join b k cs own (suc d ∷ r) r (two_of o ∷ prefix t) (prefix u) pq
    (tree_read u pq.book pq.line (suc d) r cs (own + length (two_of o ∷ prefix t)) (ok_right (prefix t) (prefix u) ok.1) pq.grown.due_is (omega arith) pq.grown.counts_is (omega (arith, size_is t)) (omega (arith, size_is t, grown_ops b cs own (suc d ∷ r) (two_of o ∷ prefix t) pq.book pq.grown)))

-- ---- the tokens of a formula within the limits
bounded_left : (t u : List Node) → Bounded (t ++ u) → Bounded t
bounded_left [] u a = tt
bounded_left (x ∷ t) u a = (a.0, bounded_left t u a.1)

bounded_right : (t u : List Node) → Bounded (t ++ u) → Bounded u
bounded_right [] u a = a
bounded_right (x ∷ t) u a = bounded_right t u a.1

ok_append : (t u : List Node) → AllOk t → AllOk u → AllOk (t ++ u)
ok_append [] u a c = c
ok_append (x ∷ t) u a c = (a.0, ok_append t u a.1 c)

leaf_ok : (a : Atom) → in_word a ≡ true → num_of (leaf_of a) < 2 ^ 64 → TokenOk (leaf_of a)
leaf_ok (var n) w h = record { known = omega arith; bound = h; signals = λ _. omega (arith, leb-true n 63 w) }
leaf_ok (input n) w h = record { known = omega arith; bound = h; signals = λ _. omega (arith, leb-true n 63 w) }
leaf_ok (output n) w h = record { known = omega arith; bound = h; signals = λ _. omega (arith, leb-true n 63 w) }

one_ok : (o : Unary) → num_of (one_of o) < 2 ^ 64 → TokenOk (one_of o)
one_ok not h = record { known = omega arith; bound = h; signals = λ q. omega arith }
one_ok next h = record { known = omega arith; bound = h; signals = λ q. omega arith }
one_ok always h = record { known = omega arith; bound = h; signals = λ q. omega arith }
one_ok eventually h = record { known = omega arith; bound = h; signals = λ q. omega arith }
one_ok (always_for n) h = record { known = omega arith; bound = h; signals = λ (q : 7 < 3). absurd (omega arith) }
one_ok (within n) h = record { known = omega arith; bound = h; signals = λ (q : 8 < 3). absurd (omega arith) }

two_ok : (o : Binary) → num_of (two_of o) < 2 ^ 64 → TokenOk (two_of o)
two_ok and h = record { known = omega arith; bound = h; signals = λ q. omega arith }
two_ok or h = record { known = omega arith; bound = h; signals = λ q. omega arith }
two_ok implies h = record { known = omega arith; bound = h; signals = λ q. omega arith }
two_ok until h = record { known = omega arith; bound = h; signals = λ q. omega arith }

tokens_ok : (f : Formula) → all in_word f ≡ true → Bounded (prefix f) → AllOk (prefix f)
unfolding prefix all
tokens_ok (leaf a) w h = (leaf_ok a w h.0, tt)
tokens_ok (one o t) w h = (one_ok o h.0, tokens_ok t w h.1)
tokens_ok (two o t u) w h =
    let (a, c) = Rattle.reader.proofs.Sounds.both {a = all in_word t} {b = all in_word u} w in
    (two_ok o h.0, ok_append (prefix t) (prefix u) (tokens_ok t a (bounded_left (prefix t) (prefix u) h.1)) (tokens_ok u c (bounded_right (prefix t) (prefix u) h.1)))

-- ---- the rules
rule_right : (b : Book) (l : List ℕ) (k : ℕ) → b.due ≡ [] → b.steps ≡ [] → length b.labels < 64 → fault b (right (rule l k)) ≡ none
unfolding fault first_fault stands opens books.within
rule_right b l k d s m = rw (ap is_nil d, ap is_nil s, lt-ltb (length b.labels) 64 m) refl

pub record RulesRead (b : Book) (k : ℕ) (rs : List RuleText) : Type 0 where
  pub book : Book
  pub line : ℕ
  pub reach : Reach b k (rule_lines rs) book line
  pub due_is : book.due ≡ []
  pub steps_is : book.steps ≡ []
  pub labels_is : book.labels ≡ b.labels ++ map label_of rs
  pub kinds_is : book.kinds ≡ b.kinds ++ map kind_of rs
  pub firsts_is : book.firsts ≡ b.firsts ++ firsts_from (length b.ops) rs
  pub counts_is : book.counts ≡ b.counts ++ map count_of rs
  pub ops_is : book.ops ≡ b.ops ++ map op_of (nodes_of rs)
  pub nums_is : book.nums ≡ b.nums ++ map num_of (nodes_of rs)
  pub opening_is : SameOpening b book

snoc_cons : {A : Type 0} (x : List A) (a : A) (y : List A) → (x ++ a ∷ []) ++ y ≡ x ++ a ∷ y
snoc_cons x a y = append_assoc x (a ∷ []) y

rules_read : (rs : List RuleText) (b : Book) (k : ℕ) → b.due ≡ [] → b.steps ≡ [] → RulesLimited rs → length b.labels + length rs ≤ 64 → length b.ops + length (nodes_of rs) ≤ 1024 → RulesRead b k rs
unfolding rule_lines nodes_of firsts_from read_on add
rules_read [] b k d s l m n = record { book = b; line = k; reach = record { on = λ rest. refl }; due_is = d; steps_is = s; labels_is = sym (append-nil b.labels); kinds_is = sym (append-nil b.kinds); firsts_is = sym (append-nil b.firsts); counts_is = sym (append-nil b.counts); ops_is = sym (append-nil b.ops); nums_is = sym (append-nil b.nums); opening_is = opening_kept b }
rules_read (r ∷ rs) b k d s l m n = one_rule r rs b k d s l.0 m n (λ (c : Book) (j : ℕ) (d' : c.due ≡ []) (s' : c.steps ≡ []) (m' : length c.labels + length rs ≤ 64) (n' : length c.ops + length (nodes_of rs) ≤ 1024). rules_read rs c j d' s' l.1 m' n')
  where
    one_rule : (r : RuleText) (rs : List RuleText) (b : Book) (k : ℕ) → b.due ≡ [] → b.steps ≡ [] → RuleLimited r → length b.labels + suc (length rs) ≤ 64 → length b.ops + length (prefix r.formula ++ nodes_of rs) ≤ 1024 → ((c : Book) (j : ℕ) → c.due ≡ [] → c.steps ≡ [] → length c.labels + length rs ≤ 64 → length c.ops + length (nodes_of rs) ≤ 1024 → RulesRead c j rs) → RulesRead b k (r ∷ rs)
    one_rule r rs b k d s l m n go =
        let ts : List Node = prefix r.formula in
        let long : length (ts ++ nodes_of rs) ≡ length ts + length (nodes_of rs) = length-append ts (nodes_of rs) in
        let size' : length ts ≡ size r.formula = size_is r.formula in
        let b₁ : Book = add (length (head_text r) + 1) b (rule r.label r.kind) in
        let h : Reach b k (head_text r ∷ []) b₁ (k + 1) = reach_one b k (head_text r) (rule r.label r.kind) (head_line r l.labelled l.kinds) (rule_right b r.label r.kind d s (omega arith)) in
        let t : TreeRead b₁ (k + 1) b.counts 0 [] ts = tree_read r.formula b₁ (k + 1) 1 [] b.counts 0 (tokens_ok r.formula l.word_fits l.bounds) refl (omega (arith, l.shallow)) refl (omega (arith, l.nodes)) (omega arith) in
        let g : Grown b₁ b.counts 0 [] ts t.book = t.grown in
        let c : Book = t.book in
        let more-labels : length c.labels ≡ length b.labels + 1 = ap length g.labels_is ∙ length-append b.labels (r.label ∷ []) in
        let more-ops : length c.ops ≡ length b.ops + length ts = grown_ops b₁ b.counts 0 [] ts c g in
        let q : RulesRead c t.line rs = go c t.line g.due_is (g.steps_is ∙ s) (omega arith) (omega arith) in
        let counted : 0 + length ts ≡ size r.formula = omega arith in
        record {
          book = q.book;
          line = q.line;
          reach = reach_append b b₁ q.book k (k + 1) q.line (head_text r ∷ []) (map node_text ts ++ rule_lines rs) h (reach_append b₁ c q.book (k + 1) t.line q.line (map node_text ts) (rule_lines rs) t.reach q.reach);
          due_is = q.due_is;
          steps_is = q.steps_is;
          labels_is = q.labels_is ∙ ap (λ (x : List (List ℕ)). x ++ map label_of rs) g.labels_is ∙ snoc_cons b.labels r.label (map label_of rs);
          kinds_is = q.kinds_is ∙ ap (λ (x : List ℕ). x ++ map kind_of rs) g.kinds_is ∙ snoc_cons b.kinds r.kind (map kind_of rs);
          firsts_is = q.firsts_is ∙ ap₂ (λ (x : List ℕ) (i : ℕ). x ++ firsts_from i rs) g.firsts_is (more-ops ∙ ap (λ (x : ℕ). length b.ops + x) size') ∙ snoc_cons b.firsts (length b.ops) (firsts_from (length b.ops + size r.formula) rs);
          counts_is = q.counts_is ∙ ap (λ (x : List ℕ). x ++ map count_of rs) (g.counts_is ∙ ap (λ (x : ℕ). b.counts ++ x ∷ []) counted) ∙ snoc_cons b.counts (size r.formula) (map count_of rs);
          ops_is = q.ops_is ∙ ap (λ (x : List ℕ). x ++ map op_of (nodes_of rs)) g.ops_is ∙ append_assoc b.ops (map op_of ts) (map op_of (nodes_of rs)) ∙ ap (λ (x : List ℕ). b.ops ++ x) (sym (map_append op_of ts (nodes_of rs)));
          nums_is = q.nums_is ∙ ap (λ (x : List ℕ). x ++ map num_of (nodes_of rs)) g.nums_is ∙ append_assoc b.nums (map num_of ts) (map num_of (nodes_of rs)) ∙ ap (λ (x : List ℕ). b.nums ++ x) (sym (map_append num_of ts (nodes_of rs)));
          opening_is = opening_then b c q.book (record { states_are = g.opening_is.states_are; names_are = g.opening_is.names_are; widths_are = g.opening_is.widths_are }) q.opening_is;
        }

-- ---- the steps
step_right : (b : Book) (u w : ℕ) → b.due ≡ [] → fault b (right (step u w)) ≡ none
unfolding fault first_fault stands opens books.within
step_right b u w d = rw (ap is_nil d) refl

pub record StepsRead (b : Book) (k : ℕ) (ss : List StepLine) : Type 0 where
  pub book : Book
  pub line : ℕ
  pub reach : Reach b k (map step_text ss) book line
  pub due_is : book.due ≡ []
  pub steps_is : book.steps ≡ b.steps ++ ss
  pub labels_is : book.labels ≡ b.labels
  pub kinds_is : book.kinds ≡ b.kinds
  pub firsts_is : book.firsts ≡ b.firsts
  pub counts_is : book.counts ≡ b.counts
  pub ops_is : book.ops ≡ b.ops
  pub nums_is : book.nums ≡ b.nums
  pub opening_is : SameOpening b book

steps_read : (ss : List StepLine) (b : Book) (k : ℕ) → b.due ≡ [] → StepsLimited ss → StepsRead b k ss
unfolding add read_on
steps_read [] b k d l = record { book = b; line = k; reach = record { on = λ rest. refl }; due_is = d; steps_is = sym (append-nil b.steps); labels_is = refl; kinds_is = refl; firsts_is = refl; counts_is = refl; ops_is = refl; nums_is = refl; opening_is = opening_kept b }
steps_read (x ∷ ss) b k d l =
    let b₁ : Book = add (length (step_text x) + 1) b (step x.number x.truths) in
    let h : Reach b k (step_text x ∷ []) b₁ (k + 1) = reach_one b k (step_text x) (step x.number x.truths) (step_line_lem x l.0 l.1) (step_right b x.number x.truths d) in
    let q : StepsRead b₁ (k + 1) ss = steps_read ss b₁ (k + 1) d l.2 in
    record {
      book = q.book;
      line = q.line;
      reach = reach_append b b₁ q.book k (k + 1) q.line (step_text x ∷ []) (map step_text ss) h q.reach;
      due_is = q.due_is;
      steps_is = q.steps_is ∙ snoc_cons b.steps x ss;
      labels_is = q.labels_is;
      kinds_is = q.kinds_is;
      firsts_is = q.firsts_is;
      counts_is = q.counts_is;
      ops_is = q.ops_is;
      nums_is = q.nums_is;
      opening_is = record { states_are = q.opening_is.states_are; names_are = q.opening_is.names_are; widths_are = q.opening_is.widths_are };
    }

-- ---- no line holds an LF
free_nodes : (ts : List Node) (ls : List (List ℕ)) → AllOk ts → AllFree ls → AllFree (map node_text ts ++ ls)
free_nodes [] ls a f = f
free_nodes (t ∷ ts) ls a f = (node_free t a.0, free_nodes ts ls a.1 f)

free_rules : (rs : List RuleText) (ls : List (List ℕ)) → RulesLimited rs → AllFree ls → AllFree (rule_lines rs ++ ls)
unfolding rule_lines
free_rules [] ls l f = f
free_rules (r ∷ rs) ls l f = (
  head_free r l.0.labelled,
  subst AllFree (sym (append_assoc (map node_text (prefix r.formula)) (rule_lines rs) ls)) (free_nodes (prefix r.formula) (rule_lines rs ++ ls) (tokens_ok r.formula l.0.word_fits l.0.bounds) (free_rules rs ls l.1 f)),
)

free_steps : (ss : List StepLine) → StepsLimited ss → AllFree (map step_text ss)
free_steps [] l = tt
free_steps (s ∷ ss) l = (step_free s l.0 l.1, free_steps ss l.2)

free_slots : (ss : List SlotText) (ls : List (List ℕ)) → SlotsLimited ss → AllFree ls → AllFree (map slot_text ss ++ ls)
free_slots [] ls l f = f
free_slots (s ∷ ss) ls l f = (slot_free s l.0, free_slots ss ls l.1 f)

free_opening : (o : OpeningText) (ls : List (List ℕ)) → OpeningLimited o → AllFree ls → AllFree (opening_lines o ++ ls)
unfolding opening_lines
free_opening o ls l f = go o.states l.count
  where
    go : (c : Opt ℕ) → CountLimited c → AllFree ((states_lines c ++ map slot_text o.slots) ++ ls)
    go None h = free_slots o.slots ls l.slots f
    go (Some c) h = (states_free c h, free_slots o.slots ls l.slots f)

pub free_book : (o : OpeningText) (rs : List RuleText) (ss : List StepLine) → OpeningLimited o → RulesLimited rs → StepsLimited ss
    → AllFree (opening_lines o ++ (rule_lines rs ++ map step_text ss))
free_book o rs ss k l m = free_opening o (rule_lines rs ++ map step_text ss) k (free_rules rs (map step_text ss) l (free_steps ss m))

-- ---- the opening lines
-- only slots have been added, and no rule or step stands
pub record Opened (c : Opt ℕ) (names : List (List ℕ)) (widths : List ℕ) (b : Book) : Type 0 where
  pub labels_is : b.labels ≡ []
  pub kinds_is : b.kinds ≡ []
  pub firsts_is : b.firsts ≡ []
  pub counts_is : b.counts ≡ []
  pub ops_is : b.ops ≡ []
  pub nums_is : b.nums ≡ []
  pub steps_is : b.steps ≡ []
  pub due_is : b.due ≡ []
  pub states_is : b.states ≡ c
  pub names_is : b.names ≡ names
  pub widths_is : b.widths ≡ widths

pub record OpeningRead (b : Book) (k : ℕ) (c : Opt ℕ) (names : List (List ℕ)) (widths : List ℕ) (ls : List (List ℕ)) : Type 0 where
  pub book : Book
  pub line : ℕ
  pub reach : Reach b k ls book line
  pub opened : Opened c names widths book

slot_right : (b : Book) (l : List ℕ) (w : ℕ) → b.labels ≡ [] → b.steps ≡ [] → length b.names < 32 → fault b (right (slot l w)) ≡ none
unfolding fault first_fault stands opening opens books.within
slot_right b l w p q m = rw (ap is_nil p, ap is_nil q, lt-ltb (length b.names) 32 m) refl

slots_read : (ss : List SlotText) (b : Book) (k : ℕ) (c : Opt ℕ) (names : List (List ℕ)) (widths : List ℕ) → Opened c names widths b → SlotsLimited ss
    → length names + length ss ≤ 32 → OpeningRead b k c (names ++ map name_of ss) (widths ++ map width_of ss) (map slot_text ss)
unfolding add
slots_read [] b k c names widths p l m = record {
  book = b;
  line = k;
  reach = record { on = λ rest. refl };
  opened = subst (λ (x : List (List ℕ)). Opened c x (widths ++ []) b) (sym (append-nil names)) (subst (λ (x : List ℕ). Opened c names x b) (sym (append-nil widths)) p);
}
slots_read (s ∷ ss) b k c names widths p l m =
    let b₁ : Book = add (length (slot_text s) + 1) b (slot s.name s.width) in
    let h : Reach b k (slot_text s ∷ []) b₁ (k + 1) =
    reach_one b k (slot_text s) (slot s.name s.width) (slot_line_lem s l.0) (slot_right b s.name s.width p.labels_is p.steps_is (omega (arith, ap length p.names_is))) in
    let p₁ : Opened c (names ++ s.name ∷ []) (widths ++ s.width ∷ []) b₁ = record {
      labels_is = p.labels_is;
      kinds_is = p.kinds_is;
      firsts_is = p.firsts_is;
      counts_is = p.counts_is;
      ops_is = p.ops_is;
      nums_is = p.nums_is;
      steps_is = p.steps_is;
      due_is = p.due_is;
      states_is = p.states_is;
      names_is = ap (λ (x : List (List ℕ)). x ++ s.name ∷ []) p.names_is;
      widths_is = ap (λ (x : List ℕ). x ++ s.width ∷ []) p.widths_is;
    } in
    let q : OpeningRead b₁ (k + 1) c ((names ++ s.name ∷ []) ++ map name_of ss) ((widths ++ s.width ∷ []) ++ map width_of ss) (map slot_text ss) =
    slots_read ss b₁ (k + 1) c (names ++ s.name ∷ []) (widths ++ s.width ∷ []) p₁ l.1 (omega (arith, length-append names (s.name ∷ []))) in
    record {
      book = q.book;
      line = q.line;
      reach = reach_append b b₁ q.book k (k + 1) q.line (slot_text s ∷ []) (map slot_text ss) h q.reach;
      opened =
          subst (λ (x : List (List ℕ)). Opened c x (widths ++ s.width ∷ map width_of ss) q.book) (snoc_cons names s.name (map name_of ss))
          (subst (λ (x : List ℕ). Opened c ((names ++ s.name ∷ []) ++ map name_of ss) x q.book) (snoc_cons widths s.width (map width_of ss)) q.opened);
    }

opened_empty : Opened None [] [] empty
opened_empty = record { labels_is = refl; kinds_is = refl; firsts_is = refl; counts_is = refl; ops_is = refl; nums_is = refl; steps_is = refl; due_is = refl; states_is = refl; names_is = refl; widths_is = refl }

states_right : (c : ℕ) → fault empty (right (states c)) ≡ none
unfolding fault first_fault stands opening opens books.within
states_right c = refl

opening_read : (o : OpeningText) → OpeningLimited o → OpeningRead empty 0 o.states (map name_of o.slots) (map width_of o.slots) (opening_lines o)
unfolding opening_lines add
opening_read o l = go o.states l.count
  where
    go : (c : Opt ℕ) → CountLimited c → OpeningRead empty 0 c (map name_of o.slots) (map width_of o.slots) (states_lines c ++ map slot_text o.slots)
    go None h = slots_read o.slots empty 0 None [] [] opened_empty l.slots (omega (arith, l.few))
    go (Some c) h =
        let t : List ℕ = 115 ∷ 116 ∷ 97 ∷ 116 ∷ 101 ∷ 115 ∷ 9 ∷ Rattle.number.specs.Digits.decimal c in
        let b₁ : Book = add (length t + 1) empty (states c) in
        let r : Reach empty 0 (t ∷ []) b₁ 1 = reach_one empty 0 t (states c) (states_line_lem c h) (states_right c) in
        let p : Opened (Some c) [] [] b₁ = record { labels_is = refl; kinds_is = refl; firsts_is = refl; counts_is = refl; ops_is = refl; nums_is = refl; steps_is = refl; due_is = refl; states_is = refl; names_is = refl; widths_is = refl } in
        let q : OpeningRead b₁ 1 (Some c) (map name_of o.slots) (map width_of o.slots) (map slot_text o.slots) = slots_read o.slots b₁ 1 (Some c) [] [] p l.slots (omega (arith, l.few)) in
        record { book = q.book; line = q.line; reach = reach_append empty b₁ q.book 0 1 q.line (t ∷ []) (map slot_text o.slots) r q.reach; opened = q.opened }

-- ---- the whole
pub record BookRead (o : OpeningText) (rs : List RuleText) (ss : List StepLine) : Type 0 where
  pub book : Book
  pub is : read_on empty 0 (opening_lines o ++ (rule_lines rs ++ map step_text ss)) ≡ accepted book
  pub states : book.states ≡ o.states
  pub names : book.names ≡ map name_of o.slots
  pub widths : book.widths ≡ map width_of o.slots
  pub labels : book.labels ≡ map label_of rs
  pub kinds : book.kinds ≡ map kind_of rs
  pub firsts : book.firsts ≡ firsts_from 0 rs
  pub counts : book.counts ≡ map count_of rs
  pub ops : book.ops ≡ map op_of (nodes_of rs)
  pub nums : book.nums ≡ map num_of (nodes_of rs)
  pub steps : book.steps ≡ ss

pub book_read : (o : OpeningText) (rs : List RuleText) (ss : List StepLine) → OpeningLimited o → RulesLimited rs → StepsLimited ss
    → length rs ≤ 64 → length (nodes_of rs) ≤ 1024 → BookRead o rs ss
unfolding read_on
book_read o rs ss h l m few nodes =
    let u : OpeningRead empty 0 o.states (map name_of o.slots) (map width_of o.slots) (opening_lines o) = opening_read o h in
    let v : Opened o.states (map name_of o.slots) (map width_of o.slots) u.book = u.opened in
    let p : RulesRead u.book u.line rs = rules_read rs u.book u.line v.due_is v.steps_is l (omega (arith, ap length v.labels_is)) (omega (arith, ap length v.ops_is)) in
    let q : StepsRead p.book p.line ss = steps_read ss p.book p.line p.due_is m in
    let end : read_on q.book q.line [] ≡ accepted q.book = ap (λ (t : Bool). pick t (accepted q.book) (refused 10 q.line)) (ap is_nil q.due_is) in
    let z : SameOpening u.book q.book = opening_then u.book p.book q.book p.opening_is q.opening_is in
    record {
      book = q.book;
      is = u.reach.on (rule_lines rs ++ map step_text ss) ∙ p.reach.on (map step_text ss) ∙ ap (read_on p.book p.line) (sym (append-nil (map step_text ss))) ∙ q.reach.on [] ∙ end;
      states = z.states_are ∙ v.states_is;
      names = z.names_are ∙ v.names_is;
      widths = z.widths_are ∙ v.widths_is;
      labels = q.labels_is ∙ p.labels_is ∙ ap (λ (x : List (List ℕ)). x ++ map label_of rs) v.labels_is;
      kinds = q.kinds_is ∙ p.kinds_is ∙ ap (λ (x : List ℕ). x ++ map kind_of rs) v.kinds_is;
      firsts = q.firsts_is ∙ p.firsts_is ∙ ap₂ (λ (x y : List ℕ). x ++ firsts_from (length y) rs) v.firsts_is v.ops_is;
      counts = q.counts_is ∙ p.counts_is ∙ ap (λ (x : List ℕ). x ++ map count_of rs) v.counts_is;
      ops = q.ops_is ∙ p.ops_is ∙ ap (λ (x : List ℕ). x ++ map op_of (nodes_of rs)) v.ops_is;
      nums = q.nums_is ∙ p.nums_is ∙ ap (λ (x : List ℕ). x ++ map num_of (nodes_of rs)) v.nums_is;
      steps = q.steps_is ∙ ap (λ (x : List StepLine). x ++ ss) p.steps_is;
    }
