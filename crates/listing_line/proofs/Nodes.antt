-- The `node` line, from what the code writes one behind the other.
use mathlib.Core.Path.{◌≡◌, refl, sym, ap, subst, ◌∙◌}
use mathlib.Core.Bool.{false}
use mathlib.Core.List.{List, [], ◌∷◌}
use Prim.Native.Nat.{ℕ}
use native.Mathlib.Omega.{arith}
use Rattle.formula.specs.Spells.{Spells}
use Rattle.formula.specs.Table.{node_at}
use Rattle.monitor.specs.declared.range.End.{End}
use Rattle.monitor.specs.declared.range.End.TheVariants.{Step, Open}
use Rattle.monitor.specs.declared.range.AnchorRange.{AnchorRange}
use Rattle.monitor.specs.declared.node.SignalExpr.{SignalExpr}
use Rattle.monitor.specs.declared.node.SignalExpr.TheVariants.{True, At}
use Rattle.monitor.specs.declared.node.MonNode.{MonNode}
use Rattle.monitor.specs.declared.node.MonNode.TheVariants.{RangeCheck, DelayedCheck, Obligation, And as AndNode, Or as OrNode}
use Rattle.monitor.specs.Mon.{Signal, always_true, at, Check, range_check, delayed_check, obligation, expr_of, node_of}
use Rattle.number.specs.Digits.{decimal}
use Rattle.text.specs.Tape.{Tape, Wrote}
use Rattle.text.proofs.Tapes.{as_text, then}
use Rattle.spelling.specs.Spelling.{signal_text}
use Rattle.spelling.specs.Scan.{Pure, Spelled}
use Rattle.listing_line.specs.Line.{line, tabbed, marked, absent}
use Rattle.listing_line.specs.Node.{node_word, end_text, check_fields, join_fields, line_of, SignalReady, NodeReady, SignalStands, CheckStands, ExprWrote, NodeWrote}
use Rattle.listing_line.proofs.Fields.{more, done, tab_more, tab_done, group}

abbrev head_fields : ℕ → ℕ → List (List ℕ)
head_fields id form = node_word ∷ decimal id ∷ (form ∷ []) ∷ []

pub end_step : (a b : Tape) (to : End) (t : ℕ) → to ≡ Step t → Wrote a (marked (decimal t) 9) b → Wrote a (marked (end_text to) 9) b
end_step a b to t e w = as_text a b (ap (λ (x : End). marked (end_text x) 9) e) w

pub end_open : (a b : Tape) (to : End) → to ≡ Open → Wrote a (42 ∷ 9 ∷ []) b → Wrote a (marked (end_text to) 9) b
end_open a b to e w = as_text a b (ap (λ (x : End). marked (end_text x) 9) e) w

abbrev range_fields : AnchorRange → List (List ℕ)
range_fields r = decimal r.from ∷ end_text r.to ∷ []

pub range_wrote : (a b c : Tape) (r : AnchorRange) → Wrote a (marked (decimal r.from) 9) b → Wrote b (marked (end_text r.to) 9) c → Wrote a (tabbed (range_fields r)) c
range_wrote a b c r p q = tab_more (decimal r.from) (end_text r.to ∷ []) p (tab_more (end_text r.to) [] q tab_done)

-- ---- a signal
true_at : {p : ℕ} {B : Type 0} → ◌≡◌ {A = SignalExpr} True (At p) → B
true_at h = let z : ◌≡◌ {A = ℕ} 0 1 = cc in absurd (omega arith)

at_inj : {p q : ℕ} → ◌≡◌ {A = SignalExpr} (At p) (At q) → p ≡ q
at_inj h = cc

pub expr_ready : (ops nums : List ℕ) (e : SignalExpr) (p : ℕ) → SignalReady ops nums e → e ≡ At p → Pure ops nums p
expr_ready ops nums e p g h = subst (SignalReady ops nums) h g

module _ (ops nums : List ℕ) (e : SignalExpr) (mark : ℕ) (a b : Tape) where
  pub expr_true : e ≡ True → Wrote a (84 ∷ mark ∷ []) b → ExprWrote ops nums e mark a b
  expr_true h w = record { is = go }
    where
      go : (s : Signal) → e ≡ expr_of s → SignalStands ops nums s → Wrote a (marked (signal_text s) mark) b
      go always_true q k = w
      go (at p f) q k = true_at (sym h ∙ q)

  pub expr_at : (c : Tape) (p : ℕ) → e ≡ At p → Spelled ops nums p false a c → Wrote c (mark ∷ []) b → ExprWrote ops nums e mark a b
  expr_at c p h w v = record { is = go }
    where
      go : (s : Signal) → e ≡ expr_of s → SignalStands ops nums s → Wrote a (marked (signal_text s) mark) b
      go always_true q k = true_at (sym q ∙ h)
      go (at r f) q k =
          let z : r ≡ p = at_inj (sym q ∙ h) in
          then (w.is f (subst (λ (x : ℕ). Spells (node_at ops nums) x f) z k)) v

-- ---- the forms of a node are told apart
other : {B : Type 0} → ◌≡◌ {A = ℕ} 0 1 → B
other h = absurd (omega arith)

module _ (ops nums : List ℕ) (n : MonNode) where
  pub ready_range : (s : SignalExpr) (r : AnchorRange) → NodeReady ops nums n → n ≡ RangeCheck s r → SignalReady ops nums s
  ready_range s r g e = (subst (NodeReady ops nums) e g).0

  pub ready_delayed : (s t : SignalExpr) (r : AnchorRange) → NodeReady ops nums n → n ≡ DelayedCheck s t r → SignalReady ops nums s
  ready_delayed s t r g e = (subst (NodeReady ops nums) e g).0

  pub ready_delayed_2 : (s t : SignalExpr) (r : AnchorRange) → NodeReady ops nums n → n ≡ DelayedCheck s t r → SignalReady ops nums t
  ready_delayed_2 s t r g e = (subst (NodeReady ops nums) e g).1

  pub ready_owed : (b : ℕ) (s t : SignalExpr) (r : AnchorRange) → NodeReady ops nums n → n ≡ Obligation b s t r → SignalReady ops nums s
  ready_owed b s t r g e = (subst (NodeReady ops nums) e g).0

  pub ready_owed_2 : (b : ℕ) (s t : SignalExpr) (r : AnchorRange) → NodeReady ops nums n → n ≡ Obligation b s t r → SignalReady ops nums t
  ready_owed_2 b s t r g e = (subst (NodeReady ops nums) e g).1

module _ (ops nums : List ℕ) (id : ℕ) (n : MonNode) (a b c d e f : Tape) where
  line_range :
      (s : Signal) (r : AnchorRange) → Wrote a (tabbed (head_fields id 67)) b → Wrote b (marked absent 9) c → Wrote c (tabbed (range_fields r)) d
      → Wrote d (marked (signal_text s) 9) e → Wrote e (marked absent 10) f → Wrote a (line_of id (check_fields (range_check s r))) f
  line_range s r p q w v x =
      let from : List ℕ = decimal r.from in
      let to : List ℕ = end_text r.to in
      group (head_fields id 67) absent (from ∷ to ∷ signal_text s ∷ absent ∷ []) p
      (more absent from (to ∷ signal_text s ∷ absent ∷ []) q
      (group (range_fields r) (signal_text s) (absent ∷ []) w (more (signal_text s) absent [] v (done absent x))))

  line_two :
      (form : ℕ) (bound : List ℕ) (s t : Signal) (r : AnchorRange) → Wrote a (tabbed (head_fields id form)) b → Wrote b (marked bound 9) c
      → Wrote c (tabbed (range_fields r)) d → Wrote d (marked (signal_text s) 9) e → Wrote e (marked (signal_text t) 10) f
      → Wrote a (line_of id ((form ∷ []) ∷ bound ∷ decimal r.from ∷ end_text r.to ∷ signal_text s ∷ signal_text t ∷ [])) f
  line_two form bound s t r p q w v x =
      let from : List ℕ = decimal r.from in
      let to : List ℕ = end_text r.to in
      group (head_fields id form) bound (from ∷ to ∷ signal_text s ∷ signal_text t ∷ []) p
      (more bound from (to ∷ signal_text s ∷ signal_text t ∷ []) q
      (group (range_fields r) (signal_text s) (signal_text t ∷ []) w (more (signal_text s) (signal_text t) [] v (done (signal_text t) x))))

  pub node_range :
      (x : SignalExpr) (r : AnchorRange) → n ≡ RangeCheck x r → Wrote a (tabbed (head_fields id 67)) b → Wrote b (marked absent 9) c
      → Wrote c (tabbed (range_fields r)) d → ExprWrote ops nums x 9 d e → Wrote e (marked absent 10) f → NodeWrote ops nums id n a f
  node_range x r h p q w v u = record { of_check = go; of_and = λ k. other (cc); of_or = λ k. other (cc) }
    where
      go : (k : Check) → n ≡ node_of k → CheckStands ops nums k → Wrote a (line_of id (check_fields k)) f
      go (range_check s r') k z =
          let i : x ≡ expr_of s = cc in
          let j : r ≡ r' = cc in
          line_range s r' p q (subst (λ (y : AnchorRange). Wrote c (tabbed (range_fields y)) d) j w) (v.is s i z.0) u
      go (delayed_check s t r') k z = other (cc)
      go (obligation m s t r') k z = other (cc)

  pub node_delayed :
      (x y : SignalExpr) (r : AnchorRange) → n ≡ DelayedCheck x y r → Wrote a (tabbed (head_fields id 68)) b → Wrote b (marked absent 9) c
      → Wrote c (tabbed (range_fields r)) d → ExprWrote ops nums x 9 d e → ExprWrote ops nums y 10 e f → NodeWrote ops nums id n a f
  node_delayed x y r h p q w v u = record { of_check = go; of_and = λ k. other (cc); of_or = λ k. other (cc) }
    where
      go : (k : Check) → n ≡ node_of k → CheckStands ops nums k → Wrote a (line_of id (check_fields k)) f
      go (range_check s r') k z = other (cc)
      go (delayed_check s t r') k z =
          let i : x ≡ expr_of s = cc in
          let j : r ≡ r' = cc in
          let l : y ≡ expr_of t = cc in
          line_two 68 absent s t r' p q (subst (λ (o : AnchorRange). Wrote c (tabbed (range_fields o)) d) j w) (v.is s i z.0) (u.is t l z.1)
      go (obligation m s t r') k z = other (cc)

  pub node_owed :
      (m : ℕ) (x y : SignalExpr) (r : AnchorRange) → n ≡ Obligation m x y r → Wrote a (tabbed (head_fields id 66)) b → Wrote b (marked (decimal m) 9) c
      → Wrote c (tabbed (range_fields r)) d → ExprWrote ops nums x 9 d e → ExprWrote ops nums y 10 e f → NodeWrote ops nums id n a f
  node_owed m x y r h p q w v u = record { of_check = go; of_and = λ k. other (cc); of_or = λ k. other (cc) }
    where
      go : (k : Check) → n ≡ node_of k → CheckStands ops nums k → Wrote a (line_of id (check_fields k)) f
      go (range_check s r') k z = other (cc)
      go (delayed_check s t r') k z = other (cc)
      go (obligation m' s t r') k z =
          let i : x ≡ expr_of s = cc in
          let j : r ≡ r' = cc in
          let l : y ≡ expr_of t = cc in
          let o : m ≡ m' = cc in
          line_two 66 (decimal m') s t r' p (subst (λ (g : ℕ). Wrote b (marked (decimal g) 9) c) o q) (subst (λ (g : AnchorRange). Wrote c (tabbed (range_fields g)) d) j w) (v.is s i z.0) (u.is t l z.1)

-- `-` in the five last fields
abbrev pub five : ℕ → List ℕ
five mark = 45 ∷ 9 ∷ 45 ∷ 9 ∷ 45 ∷ 9 ∷ 45 ∷ 9 ∷ 45 ∷ mark ∷ []

five_is : line (absent ∷ absent ∷ absent ∷ absent ∷ absent ∷ []) ≡ five 10
unfolding line
five_is = refl

module _ (ops nums : List ℕ) (id : ℕ) (n : MonNode) (a b c : Tape) where
  line_joined : (form : ℕ) → Wrote a (tabbed (head_fields id form)) b → Wrote b (five 10) c → Wrote a (line_of id (join_fields form)) c
  line_joined form p q = group (head_fields id form) absent (absent ∷ absent ∷ absent ∷ absent ∷ []) p (five_line q)
    where
      five_line : Wrote b (five 10) c → Wrote b (line (absent ∷ absent ∷ absent ∷ absent ∷ absent ∷ [])) c
      five_line q = as_text b c five_is q

  pub node_and : n ≡ AndNode → Wrote a (tabbed (head_fields id 65)) b → Wrote b (five 10) c → NodeWrote ops nums id n a c
  node_and h p q = record { of_check = go; of_and = λ k. line_joined 65 p q; of_or = λ k. other (cc) }
    where
      go : (k : Check) → n ≡ node_of k → CheckStands ops nums k → Wrote a (line_of id (check_fields k)) c
      go (range_check s r') k z = other (cc)
      go (delayed_check s t r') k z = other (cc)
      go (obligation m s t r') k z = other (cc)

  pub node_or : n ≡ OrNode → Wrote a (tabbed (head_fields id 79)) b → Wrote b (five 10) c → NodeWrote ops nums id n a c
  node_or h p q = record { of_check = go; of_and = λ k. other (cc); of_or = λ k. line_joined 79 p q }
    where
      go : (k : Check) → n ≡ node_of k → CheckStands ops nums k → Wrote a (line_of id (check_fields k)) c
      go (range_check s r') k z = other (cc)
      go (delayed_check s t r') k z = other (cc)
      go (obligation m s t r') k z = other (cc)
