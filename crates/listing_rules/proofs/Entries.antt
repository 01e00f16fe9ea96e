-- One rule compiled into the node table, and entered in the lists.
use mathlib.Core.Path.{◌≡◌, refl, sym, ap, ap₂, ◌∙◌}
use mathlib.Core.Bool.{Bool, false, ◌&&◌}
use mathlib.Core.List.{List, [], ◌∷◌, ◌++◌, append-nil, append_assoc}
use mathlib.Core.Option.{Option}
use Prim.Native.Nat.{ℕ, ◌+◌, ◌-◌, ◌*◌, ◌≤◌}
use native.Mathlib.Omega.{arith}
use borrow.Author.Tests.{le-leb}
use mir.Val.{Fits}
use mir.Syntax.{w64}
use lib.ListN.{length, set, take, drop, length-drop}
use lib.Seq.{sets, sets-eq, take_all, drop-length, drop-drop}
use Rattle.result.specs.Result.{given, refused}
use Rattle.formula.specs.Formula.{Formula}
use Rattle.formula.specs.Table.{Rule as IsRuleOf, IsRule}
use Rattle.formula.proofs.Rules.{rule_inv, both_long}
use Rattle.monitor.specs.Range.{all_of}
use Rattle.monitor.specs.Mon.{Mon, count}
use Rattle.monitor.specs.Compile.{rule_faults, rule_node}
use Rattle.std.specs.Prelude.{Ok, Err}
use Rattle.std.specs.Prelude.{Result as Returned}
use Rattle.result.specs.Refusal.{number_of, told}
use Rattle.result.specs.declared.Refusal.{Refusal}
use Rattle.compiler.specs.Compiled.{Call, first_or, compile_formula, or_short, rule_call, compile_call, Answers}
use Rattle.compiler.proofs.Joining.{count_size, rows_length}
use Rattle.listing_rules.specs.Rules.{Rule, first_of, refusal, mon}
use Rattle.listing_rules.specs.Made.{answer_by, rows_by, count_by, rows_of, count_of, RuleStands, Made, Entering}

-- ---- the numbers of one rule
-- a rule has at most one row for each of its nodes
count_by_lem : (fs : List Refusal) (m : Mon) (k : ℕ) → count m ≤ k → count_by fs m ≤ k
count_by_lem [] m k h = h
count_by_lem (n ∷ ns) m k h = omega arith

length_by : (fs : List Refusal) (m : Mon) → length (rows_by fs m) ≡ 7 * count_by fs m
length_by [] m = rows_length m
length_by (n ∷ ns) m = refl

pub rows_many : (q : Rule) → length (rows_of q) ≡ 7 * count_of q
rows_many q = length_by (rule_faults q.formula) (mon q)

module _ (ops nums : List ℕ) (first count' : ℕ) (q : Rule) (s : RuleStands ops nums first count' q) where
  the_rule : IsRuleOf ops nums first count' q.formula
  the_rule = rule_inv ops nums first count' q.formula s.formula

  pub count_most : count_of q ≤ count'
  unfolding mon
  count_most = count_by_lem (rule_faults q.formula) (mon q) count' (omega (arith, count_size q.formula q.first all_of false, the_rule.covers))

  pub count_few : count_of q ≤ 256
  count_few = omega (arith, count_most, the_rule.few)

-- ---- a part of a list, with numbers stored from its start on
sets_part : (l vs : List ℕ) (a : ℕ) → a + length vs ≤ length l → take a l ++ (sets (take (length l - a) (drop a l)) 0 vs ++ drop (length l - a) (drop a l)) ≡ sets l a vs
sets_part l vs a h =
    let d : length (drop a l) ≡ length l - a = length-drop a l in
    let e : take (length l - a) (drop a l) ≡ drop a l = take_all (length l - a) (drop a l) (omega arith) in
    let g : drop (length l - a) (drop a l) ≡ [] = ap (λ (n : ℕ). drop n (drop a l)) (sym d) ∙ drop-length (drop a l) in
    let n : a + (0 + length vs) ≡ a + length vs = omega arith in
    let v : sets (drop a l) 0 vs ≡ vs ++ drop (a + length vs) l =
    sets-eq vs (drop a l) 0 (omega arith) ∙ ap (vs ++◌) (drop-drop (0 + length vs) a l ∙ ap (λ (n : ℕ). drop n l) n) in
    ap₂ (λ (x y : List ℕ). take a l ++ (sets x 0 vs ++ y)) e g
    ∙ ap (take a l ++◌) (append-nil _ ∙ v)
    ∙ sym (append_assoc (take a l) vs (drop (a + length vs) l))
    ∙ sym (sets-eq vs l a h)

-- ---- the call
answer_is : (fs : List Refusal) (m : Mon) (out : List ℕ) → (first_or fs m out).answer ≡ answer_by fs m
answer_is [] m out = refl
answer_is (n ∷ ns) m out = refl

out_is : (fs : List Refusal) (m : Mon) (out : List ℕ) → (first_or fs m out).out ≡ sets out 0 (rows_by fs m)
out_is [] m out = refl
out_is (n ∷ ns) m out = refl

module _ (ops nums : List ℕ) (first count' i : ℕ) (nodes : List ℕ) (h : 1024 ≤ length ops) (g : 1024 ≤ length nums) (w : 7 * i + 1792 ≤ length nodes) where
  abbrev lent : List ℕ
  lent = take (length nodes - 7 * i) (drop (7 * i) nodes)

  module _ (q : Rule) (s : RuleStands ops nums first count' q) where
    called : compile_call ops nums first count' lent ≡ first_or (rule_faults q.formula) (mon q) lent
    unfolding compile_call mon
    called =
        let d : length (drop (7 * i) nodes) ≡ length nodes - 7 * i = length-drop (7 * i) nodes in
        let e : lent ≡ drop (7 * i) nodes = take_all (length nodes - 7 * i) (drop (7 * i) nodes) (omega arith) in
        let k : 1792 ≤ length lent = omega (arith, ap length e) in
        ap₂ (λ (x y : Bool). or_short (x && y) lent (rule_call ops nums first count' lent)) (sym (both_long ops nums h g)) (le-leb 1792 (length lent) k)
        ∙ ap (λ (o : Option Formula). compile_formula o first lent) s.formula
        ∙ ap (λ (x : ℕ). first_or (rule_faults q.formula) (rule_node q.formula x) lent) (sym s.place)

  pub made :
      (ys : List ℕ) (r : Returned ℕ Refusal) → Answers (compile_call ops nums first count' lent) r ys
      → Made ops nums first count' i nodes (take (7 * i) nodes ++ (ys ++ drop (length nodes - 7 * i) (drop (7 * i) nodes))) r
  made ys r a = record {
    answers = λ q s. a.answers ∙ ap (λ (x : Call). x.answer) (called q s) ∙ answer_is (rule_faults q.formula) (mon q) lent;
    leaves = λ q s.
        ap (λ (y : List ℕ). take (7 * i) nodes ++ (y ++ drop (length nodes - 7 * i) (drop (7 * i) nodes)))
        (a.leaves ∙ ap (λ (x : Call). x.out) (called q s) ∙ out_is (rule_faults q.formula) (mon q) lent)
        ∙ sets_part nodes (rows_of q) (7 * i) (omega (arith, rows_many q, count_few ops nums first count' q s));
  }

-- ---- entered in the lists
by_nodes : (fs : List Refusal) (m : Mon) (k : ℕ) → given k ≡ answer_by fs m → (count_by fs m ≡ k) × (first_of fs ≡ 0)
by_nodes [] m k e = (cc, refl)
by_nodes (n ∷ ns) m k e = let z : ◌≡◌ {A = ℕ} 0 1 = cc in absurd (omega arith)

by_refusal : (fs : List Refusal) (m : Mon) (k : ℕ) → refused k ≡ answer_by fs m → (count_by fs m ≡ 0) × (first_of fs ≡ k)
by_refusal [] m k e = let z : ◌≡◌ {A = ℕ} 0 1 = cc in absurd (omega arith)
by_refusal (n ∷ ns) m k e = (refl, cc)

module _ (ops nums : List ℕ) (first count' i : ℕ) (nodes nodes' : List ℕ) (c : Returned ℕ Refusal) (u : Made ops nums first count' i nodes nodes' c) where
  module _ (k : ℕ) (e : c ≡ Ok k) where
    pub some_fits : IsRule ops nums first count' → i ≤ 1024 → Fits w64 (i + k)
    some_fits p h =
        let q : Rule = record { label = []; kind = 0; first = first; formula = p.formula } in
        let s : RuleStands ops nums first count' q = record { formula = p.is; place = refl } in
        let (x, y) = by_nodes (rule_faults q.formula) (mon q) k (sym (ap told e) ∙ u.answers q s) in
        record { fits = omega (arith, count_few ops nums first count' q s) }

    pub some_entered :
        (r : ℕ) (nfirsts ncounts refusals : List ℕ)
        → Entering ops nums first count' r i (i + k) nodes nodes' nfirsts (set nfirsts r i) ncounts (set ncounts r k) refusals (set refusals r 0)
    unfolding refusal
    some_entered r nfirsts ncounts refusals = record {
      is = λ q s.
          let (x, y) = by_nodes (rule_faults q.formula) (mon q) k (sym (ap told e) ∙ u.answers q s) in
          record {
            ends = ap (λ (v : ℕ). i + v) (sym x);
            rows_are = u.leaves q s;
            first_is = refl;
            count_is = ap (set ncounts r) (sym x);
            refusal_is = ap (set refusals r) (sym y);
          };
    }

  module _ (x : Refusal) (k : ℕ) (e : c ≡ Err x) (f : k ≡ number_of x) where
    pub none_entered :
        (r : ℕ) (nfirsts ncounts refusals : List ℕ)
        → Entering ops nums first count' r i i nodes nodes' nfirsts (set nfirsts r i) ncounts (set ncounts r 0) refusals (set refusals r k)
    unfolding refusal
    none_entered r nfirsts ncounts refusals = record {
      is = λ q s.
          let (x, y) = by_refusal (rule_faults q.formula) (mon q) k (ap refused f ∙ sym (ap told e) ∙ u.answers q s) in
          record {
            ends = omega arith;
            rows_are = u.leaves q s;
            first_is = refl;
            count_is = ap (set ncounts r) (sym x);
            refusal_is = ap (set refusals r) (sym y);
          };
    }
