-- The answers of the entry point `split`, one for each return.
use mathlib.Core.Path.{◌≡◌, refl, sym, ap, ap₂, ◌∙◌}
use mathlib.Core.Bool.{Bool, true, false, ◌&&◌}
use mathlib.Core.List.{List, [], ◌∷◌}
use mathlib.Core.Option.{Option, none, some}
use Prim.Native.Nat.{ℕ, ◌≤◌}
use native.Mathlib.Omega.{arith}
use borrow.Author.Tests.{le-leb}
use lib.Dec.{leb}
use lib.ListN.{length}
use Rattle.formula.specs.Formula.{Formula}
use Rattle.formula.specs.Table.{Placed, rule_of, is_some, roomy}
use Rattle.formula.proofs.Cases.{true_false}
use Rattle.formula.proofs.Rules.{rule_inv}
use Rattle.liveness.specs.Split.{faults, skeleton_of, obligations_of, owes, Answer, refused, parts, first_or, property, split_of}
use Rattle.split.specs.Held.{entries, outcome, held, roomy_split, of_rule, unless_short, splitting, SplitReady, Decomposed}
use Rattle.liveness.specs.Judge.{Lives, top_of, Judged}
use Rattle.std.specs.Prelude.{Some, None, Ok, Err}
use Rattle.std.specs.Prelude.{Result as Returned}
use Rattle.result.specs.Refusal.{number_of}
use Rattle.result.specs.declared.Refusal.{Refusal}
use Rattle.result.specs.declared.Refusal.TheVariants.{Short}
use Rattle.split.specs.declared.parts.Filled.{Filled}
use Rattle.liveness.proofs.Judges.{top_upto}

fault_inj : {m n : Refusal} → ◌≡◌ {A = Returned ℕ Refusal} (Err m) (Err n) → m ≡ n
fault_inj h = cc

first_fault : (xs : List Refusal) (e : ℕ) (n : Refusal) (a : Answer) → Err n ≡ top_of xs e → first_or xs a ≡ refused (number_of n)
first_fault [] e n a h = let z : ◌≡◌ {A = ℕ} 0 1 = cc in absurd (omega arith)
first_fault (x ∷ xs) e n a h = ap (λ (m : Refusal). refused (number_of m)) (sym (fault_inj h))

is_some_lem : (q : Bool) (o : Option Formula) → q ≡ is_some o → q ≡ true → (f : Formula) × (o ≡ some f)
is_some_lem q none e h = true_false h e
is_some_lem q (some f) e h = (f, refl)

module _ (ops nums : List ℕ) (first count : ℕ) (a : Bool) (s w : List ℕ) where
  short : roomy_split ops nums s w ≡ false → outcome (Err Short) s w ≡ splitting ops nums first count a s w
  unfolding splitting
  short e = sym (ap (λ (b : Bool). held (unless_short b (of_rule a first (rule_of ops nums first count))) s w) e)

  pub split_table : (r : Bool) → r ≡ roomy ops nums → r ≡ false → outcome (Err Short) s w ≡ splitting ops nums first count a s w
  split_table r e h = short (ap (λ (b : Bool). b && (leb 512 (length s) && leb 768 (length w))) (sym e ∙ h))

  module _ (r : Bool) (e : r ≡ roomy ops nums) (h : r ≡ true) where
    module _ (m : 512 ≤ length s) where
      module _ (n : 768 ≤ length w) where
        long : (o : Option Formula) → rule_of ops nums first count ≡ o → splitting ops nums first count a s w ≡ held (of_rule a first o) s w
        unfolding splitting
        long o q = ap₂ (λ (b : Bool) (x : Option Formula). held (unless_short b (of_rule a first x)) s w) (ap₂ ◌&&◌ (sym e ∙ h) (ap₂ ◌&&◌ (le-leb _ _ m) (le-leb _ _ n))) q

        module _ (q : Bool) (z : q ≡ is_some (rule_of ops nums first count)) (y : q ≡ true) where
          module _ (t : a ≡ false) (b : Bool) (l : Lives ops nums first b) where
            lived : (f : Formula) → rule_of ops nums first count ≡ some f → splitting ops nums first count a s w ≡ held (property b f first) s w
            lived f p = long (some f) p ∙ ap (λ (x : Bool). held (split_of x f first) s w) t ∙ ap (λ (c : Bool). held (property c f first) s w) (sym (l.is f (rule_inv ops nums first count f p).spells))

            pub split_calm : b ≡ false → outcome (Ok None) s w ≡ splitting ops nums first count a s w
            split_calm x =
                let (f, p) = is_some_lem q _ z y in
                sym (lived f p ∙ ap (λ (c : Bool). held (property c f first) s w) x)

            module _ (x : b ≡ true) (top : Returned ℕ Refusal) (j : Judged ops nums first top) where
              judged : (f : Formula) → rule_of ops nums first count ≡ some f
                  → splitting ops nums first count a s w ≡ held (first_or (faults f) (parts (skeleton_of f first 0) (obligations_of f first))) s w
              judged f p = lived f p ∙ ap (λ (c : Bool). held (property c f first) s w) x

              pub split_fault : (v : Refusal) → top ≡ Err v → outcome (Err v) s w ≡ splitting ops nums first count a s w
              split_fault v u =
                  let (f, p) = is_some_lem q _ z y in
                  sym (judged f p ∙ ap (λ (c : Answer). held c s w) (first_fault (faults f) _ v _ (sym u ∙ j.is f (rule_inv ops nums first count f p).spells)))

              module _ (v : ℕ) (u : top ≡ Ok v) where
                sound : (f : Formula) → rule_of ops nums first count ≡ some f → faults f ≡ []
                sound f p = (top_upto (faults f) _ v (sym u ∙ j.is f (rule_inv ops nums first count f p).spells)).0

                pub split_parts : (s' w' : List ℕ) (d : Filled) → Decomposed ops nums first s s' 0 w w' 0 d → outcome (Ok (Some (record { skeleton = d.entries; owed = d.owed }))) s' w' ≡ splitting ops nums first count a s w
                split_parts s' w' d k =
                    let (f, p) = is_some_lem q _ z y in
                    let c = k.is f (rule_inv ops nums first count f p).spells (sound f p) in
                    sym (judged f p ∙ ap (λ (xs : List Refusal). held (first_or xs (parts (skeleton_of f first 0) (obligations_of f first))) s w) (sound f p)
                    ∙ same (entries (skeleton_of f first 0)) d.entries (owes f first) d.owed _ s' _ w' (omega (arith, c.entered)) (omega (arith, c.counted)) (sym c.skeleton) (sym c.owing))
                  where
                    same : (i j k l : ℕ) (t u v x : List ℕ) → i ≡ j → k ≡ l → t ≡ u → v ≡ x → outcome (Ok (Some (record { skeleton = i; owed = k }))) t v ≡ outcome (Ok (Some (record { skeleton = j; owed = l }))) u x
                    same i j k l t u v x e f g h = cc

                pub ready_rule : SplitReady ops nums first s 0 w 0
                ready_rule =
                    let (f, p) = is_some_lem q _ z y in
                    let g = rule_inv ops nums first count f p in
                    record {
                      place = record { formula = f; spells = g.spells; in_ops = omega (arith, g.covers, g.in_ops); in_nums = omega (arith, g.covers, g.in_nums) };
                      sound = sound f p;
                      room = omega (arith, g.covers, g.few);
                      room_owed = omega (arith, g.covers, g.few);
                    }

pub placed_rule : (ops nums : List ℕ) (first count : ℕ) (q : Bool) → q ≡ is_some (rule_of ops nums first count) → q ≡ true → Placed ops nums first
placed_rule ops nums first count q z y =
    let (f, p) = is_some_lem q _ z y in
    let g = rule_inv ops nums first count f p in
    record { formula = f; spells = g.spells; in_ops = omega (arith, g.covers, g.in_ops); in_nums = omega (arith, g.covers, g.in_nums) }
