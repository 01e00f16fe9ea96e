-- Stores into the lent tables: the laws of the functions that fill them.
use mathlib.Core.Path.{◌≡◌, refl, sym, ap, ap₂, subst, ◌∙◌}
use mathlib.Core.List.{List, ◌++◌}
use Prim.Native.Nat.{ℕ, ◌+◌, ◌≤◌, ◌<◌}
use native.Mathlib.Omega.{arith}
use native.Mathlib.Numerals.{add-one}
use lib.Seq.{paste, paste-zero, paste-suc, take-length}
use lib.ListN.{length, take, drop, get_or, set, length-set}
use Rattle.terms.specs.Kinds.{kind_number}
use Rattle.terms.specs.declared.kind.Kind.{Kind}
use Rattle.line.specs.Line.{Content, rule, node, right, parse}
use Rattle.line.specs.Means.{Answer, held, means, LineIs}
use Rattle.line.specs.declared.line.Content as held-type
use Rattle.line.specs.declared.line.Content.TheVariants as contents
use Rattle.std.specs.Prelude.{Ok, Err}
use Rattle.line.specs.declared.line.Fault.{Fault}
use Rattle.line.specs.declared.line.Fault.TheVariants as fault_of
use Rattle.reader.specs.BookTables.{BookTables}
use Rattle.reader.specs.FillingPass.{placed, RuleRoom, RuleDone, NodeRoom, NodeDone, LineRoom, LinePut, LeftBy}
use Rattle.reader.specs.declared.fill.Tally.{Tally}

-- ---- a copy
pub record Copying (dst₀ : List ℕ) (at : ℕ) (src dst : List ℕ) (j : ℕ) : Type 0 where
  pub inside : j ≤ length src
  pub is : dst ≡ paste dst₀ at src j
  pub long : length dst ≡ length dst₀

pub copy_first : (dst : List ℕ) (at : ℕ) (src : List ℕ) → Copying dst at src dst 0
copy_first dst at src = record { inside = omega arith; is = paste-zero dst at src; long = refl }

module _ (dst₀ : List ℕ) (at : ℕ) (src dst : List ℕ) (j : ℕ) (c : Copying dst₀ at src dst j) (room : at + length src ≤ length dst₀) where
  pub copy_in_dst : j < length src → at + j < length dst
  copy_in_dst h = omega (arith, c.long)

  pub copy_next : j < length src → Copying dst₀ at src (set dst (at + j) (get_or src j 0)) (j + 1)
  copy_next h = record {
    inside = omega arith;
    is = ap (λ (l : List ℕ). set l (at + j) (get_or src j 0)) c.is ∙ paste-suc dst₀ at src j 0 (omega arith) h ∙ ap (paste dst₀ at src) (sym (add-one j));
    long = length-set dst (at + j) (get_or src j 0) ∙ c.long;
  }

  pub copy_end : length src ≤ j → dst ≡ placed dst₀ at src
  copy_end h =
      let e : j ≡ length src = omega (arith, c.inside) in
      c.is ∙ ap (paste dst₀ at src) e ∙ ap (λ (l : List ℕ). take at dst₀ ++ l ++ drop (at + length src) dst₀) (take-length src)

-- ---- a line
module _ (line : List ℕ) (l : Answer) (is : LineIs line l) where
  -- a line with no content is not right
  pub line_right : (x : Fault) → l ≡ Err x → (c : Content) → parse line ≡ right c → ⊥
  unfolding means
  line_right x h c e = other x (ap (means line) (sym h) ∙ is.holds ∙ e)
    where
      other : (x : Fault) → means line (Err x) ≡ right c → ⊥
      other fault_of.Unreadable z = let y : ◌≡◌ {A = ℕ} 0 1 = cc in omega arith
      other (fault_of.Field o f) z = let y : ◌≡◌ {A = ℕ} 0 1 = cc in omega arith

  -- and leaves everything
  pub line_none : (t : BookTables) (f : Tally) (x : Fault) → l ≡ Err x → LinePut line t f t f
  line_none t f x h = record { left = λ c e. absurd (line_right x h c e) }

  module _ (x : held-type.Content) (e : l ≡ Ok x) where
    line_held : parse line ≡ right (held line x)
    unfolding means
    line_held = sym is.holds ∙ ap (means line) e

    only : (t : BookTables) (f : Tally) (t' : BookTables) (f' : Tally) → LeftBy (held line x) t f t' f' → LinePut line t f t' f'
    only t f t' f' p = record { left = λ c q. subst (λ (y : Content). LeftBy y t f t' f') (right_is (sym line_held ∙ q)) p }
      where
        right_is : {c d : Content} → right c ≡ right d → c ≡ d
        right_is z = cc

    pub line_kept : (t : BookTables) (f : Tally) (s w : ℕ) → x ≡ contents.Step s w → LinePut line t f t f
    line_kept t f s w q = only t f t f (subst (λ (y : held-type.Content). LeftBy (held line y) t f t f) (sym q) (record { tables = refl; fill = refl }))

    pub line_states : (t : BookTables) (f : Tally) (c : ℕ) → x ≡ contents.States c → LinePut line t f t f
    line_states t f c q = only t f t f (subst (λ (y : held-type.Content). LeftBy (held line y) t f t f) (sym q) (record { tables = refl; fill = refl }))

    pub line_slot : (t : BookTables) (f : Tally) (start len w : ℕ) → x ≡ contents.Slot start len w → LinePut line t f t f
    line_slot t f start len w q = only t f t f (subst (λ (y : held-type.Content). LeftBy (held line y) t f t f) (sym q) (record { tables = refl; fill = refl }))

    module _ (start len : ℕ) (kind : Kind) (k : x ≡ contents.Rule start len kind) where
      module _ (t : BookTables) (f : Tally) (rest label : List ℕ) (p : rest ≡ drop start line) (q : label ≡ take len rest) (v : ℕ) (n : v ≡ kind_number kind) where
        rule_held : held line x ≡ rule label v
        rule_held = ap (held line) k ∙ ap₂ rule (ap (take len) (sym p) ∙ sym q) (sym n)

        pub line_rule_room : LineRoom line t f → RuleRoom label t f
        line_rule_room m = m.room (rule label v) (line_held ∙ ap right rule_held)

        pub line_rule_put : (t' : BookTables) (f' : Tally) → RuleDone label v t f t' f' → LinePut line t f t' f'
        line_rule_put t' f' u = only t f t' f' (subst (λ (y : Content). LeftBy y t f t' f') (sym rule_held) u)

    module _ (op num : ℕ) (k : x ≡ contents.Node op num) (t : BookTables) (f : Tally) where
      pub line_node_room : LineRoom line t f → NodeRoom t f
      line_node_room m = m.room (node op num) (line_held ∙ ap (λ (y : held-type.Content). right (held line y)) k)

      pub line_node_put : (t' : BookTables) (f' : Tally) → NodeDone op num t f t' f' → LinePut line t f t' f'
      line_node_put t' f' u = only t f t' f' (subst (λ (y : held-type.Content). LeftBy (held line y) t f t' f') (sym k) u)
