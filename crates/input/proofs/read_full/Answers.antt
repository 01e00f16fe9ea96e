use Rattle.std.proofs.Common.{◌≡◌, ℕ, ◌+◌, ◌-◌, ◌≤◌, List, ◌++◌, rules, arith, length, take, slice_range, sym, ap, ◌∙◌, subst, le_refl, drop_at, length-take-le}
use Rattle.std.proofs.lemmas.Slice.{take-put_mid_below}
use Rattle.std.specs.Io.KnownBytes.{Consumes}
use Rattle.std.proofs.KnownBytes.{Consumes-trans}
use mathlib.Core.List.{append-nil}
use borrow.Rule.Slice.PartMut.{put_mid, post_of}
use lib.Seq.{take-add, take-append-le}
use Rattle.std.specs.Prelude.{Ok}
use Rattle.input.proofs.OneRead.{gave, over}
use Rattle.input.proofs.read_full.Goals as goal

-- a front of b bytes is one of a and the range behind it
take_split : (a b : ℕ) (old new : List ℕ) → a ≤ b → take a new ≡ take a old → take a old ++ slice_range new a b ≡ take b new
take_split a b old new h front =
    let same : a + (b - a) ≡ b = omega arith in
    ap (λ l. l ++ slice_range new a b) (sym front) ∙ sym (take-add a (b - a) new) ∙ ap (λ n. take n new) same

-- what was put behind the first a bytes stands there
range_put : (a k n : ℕ) (xs ys : List ℕ) → a ≤ length xs → n ≤ length ys → slice_range (put_mid a k xs ys) a (a + n) ≡ take n ys
range_put a k n xs ys within fits =
    let same : (a + n) - a ≡ n = omega arith in
    let after = post_of a k xs in
    ap (take ((a + n) - a)) (drop_at (take a xs) (ys ++ after) a (length-take-le a xs within)) ∙ ap (λ m. take m (ys ++ after)) same ∙ take-append-le n ys after fits

pub overflow_add-done : goal.overflow_add-done
overflow_add-done g c =
    let (more, fits, consumes) = gave _ _ _ (search rules) _ _ c.read-got.ensures.bound c.read-got.ensures.bytes _ (ap Ok (sym c.in-Some.is) ∙ sym c.in_ok-n.was ∙ c.taken.ensures) in
    omega (arith, fits, c.loop-done.invariant.1)

pub loop-done-smaller : goal.loop-done-smaller
loop-done-smaller g c =
    let (more, fits, consumes) = gave _ _ _ (search rules) _ _ c.read-got.ensures.bound c.read-got.ensures.bytes _ (ap Ok (sym c.in-Some.is) ∙ sym c.in_ok-n.was ∙ c.taken.ensures) in
    omega (arith, more, fits, c.loop-done.invariant.1)

pub loop-done-preserved : goal.loop-done-preserved
loop-done-preserved g c =
    let from = c.loop-done.done in
    let room = length c.loop-done.buf - from in
    let within = c.loop-done.invariant.1 in
    let (more, fits, consumes) = gave _ _ _ (search rules) _ _ c.read-got.ensures.bound c.read-got.ensures.bytes _ (ap Ok (sym c.in-Some.is) ∙ sym c.in_ok-n.was ∙ c.taken.ensures) in
    let part = range_put from room c.in-Some.n c.loop-done.buf c.read-got.new.buf within fits in
    let joined = take_split from (from + c.in-Some.n) c.loop-done.buf (put_mid from room c.loop-done.buf c.read-got.new.buf) (omega arith) (take-put_mid_below _ _ _ _ _ (le_refl _) within) in
    (search rules, omega (arith, fits, within), subst (Consumes _ _) (ap (λ l. take from c.loop-done.buf ++ l) (sym part) ∙ joined) (Consumes-trans _ _ _ _ _ c.loop-done.invariant.2 consumes))

pub returns-in_default-clause-bytes : goal.returns-in_default-clause-bytes
returns-in_default-clause-bytes g c =
    let (none, end) = over _ _ _ (search rules) _ _ c.read-got.ensures.bound c.read-got.ensures.bytes (ap Ok (sym c.in_default.is) ∙ sym c.in_ok-n.was ∙ c.taken.ensures) (omega (arith, c.loop-done-test.true)) in
    let front = take-put_mid_below _ _ _ _ _ (le_refl c.loop-done.done) c.loop-done.invariant.1 in
    subst (Consumes _ _) (append-nil _ ∙ sym front) (Consumes-trans _ _ _ _ _ c.loop-done.invariant.2 none)

pub returns-in_default-clause-whole : goal.returns-in_default-clause-whole
returns-in_default-clause-whole g c =
    let (none, end) = over _ _ _ (search rules) _ _ c.read-got.ensures.bound c.read-got.ensures.bytes (ap Ok (sym c.in_default.is) ∙ sym c.in_ok-n.was ∙ c.taken.ensures) (omega (arith, c.loop-done-test.true)) in
    λ h. end
