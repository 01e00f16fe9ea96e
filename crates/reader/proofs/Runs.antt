-- One line of the filling pass: the tables are the entry's with what has been read in front.
use mathlib.Core.Path.{◌≡◌, refl, sym, ap, subst, ◌∙◌}
use mathlib.Core.Bool.{Bool, true, false, ◌&&◌}
use mathlib.Core.List.{List, [], ◌∷◌, map}
use mathlib.Core.Option.{Option, none, some}
use Prim.Native.Nat.{ℕ, suc, ◌+◌, ◌-◌, ◌≤◌, ◌<◌}
use native.Mathlib.Omega.{arith}
use borrow.Author.Tests.{leb-true}
use lib.Dec.{leb}
use lib.ListN.{length, set, length-append}
use Rattle.terms.specs.Choice.{pick}
use Rattle.line.specs.Text.{lines}
use Rattle.line.specs.Line.{Content, rule, node, step, states, slot}
use Rattle.line.proofs.Sane.{Sane}
use Rattle.result.specs.declared.Refusal.{Refusal}
use Rattle.book.specs.Book.{Book, empty, last_of, add, Outcome, accepted, refused, unless, read_on, ended, read}
use Rattle.book.proofs.States.{last_snoc, last_bump}
use Rattle.reader.specs.BookTables.{BookTables, SlotTables, columns, over, written, roomy, roomy_slots}
use Rattle.reader.specs.Answer.{Roomy, RoomySlots}
use Rattle.reader.specs.FillingPass.{RoomFor, LeftBy, Kept, RuleDone, NodeDone}
use Rattle.reader.specs.declared.fill.Tally.{Tally}
use Rattle.reader.proofs.Sounds.{both, Passed, label_short, rules_left, nodes_left, node_inside, Sound}
use Rattle.reader.proofs.Columns.{over_long, over_snoc, over_bump, cells_snoc, cells_long, map_snoc}

-- the room, test by test
and_true : (a b : Bool) → (a && b) ≡ true → (a ≡ true) × (b ≡ true)
and_true a b h = both {a = a} {b = b} h

pub roomy_is : (t : BookTables) → roomy t ≡ true → Roomy t
unfolding roomy
roomy_is t e =
    let (a, e1) = and_true (leb 2048 (length t.labels)) _ e in
    let (b, e2) = and_true (leb 64 (length t.lens)) _ e1 in
    let (c, e3) = and_true (leb 64 (length t.kinds)) _ e2 in
    let (d, e4) = and_true (leb 64 (length t.firsts)) _ e3 in
    let (f, e5) = and_true (leb 64 (length t.counts)) _ e4 in
    let (g, h) = and_true (leb 1024 (length t.ops)) (leb 1024 (length t.nums)) e5 in
    record {
      labels = leb-true _ _ a;
      lens = leb-true _ _ b;
      kinds = leb-true _ _ c;
      firsts = leb-true _ _ d;
      counts = leb-true _ _ f;
      ops = leb-true _ _ g;
      nums = leb-true _ _ h;
    }

pub roomy_slots_is : (u : SlotTables) → roomy_slots u ≡ true → RoomySlots u
unfolding roomy_slots
roomy_slots_is u e =
    let (a, e1) = and_true (leb 1024 (length u.names)) _ e in
    let (b, c) = and_true (leb 32 (length u.lens)) (leb 32 (length u.widths)) e1 in
    record { names = leb-true _ _ a; lens = leb-true _ _ b; widths = leb-true _ _ c }

pub record Tallied (b : Book) (f : Tally) : Type 0 where
  pub rules : f.rules ≡ length b.labels
  pub nodes : f.nodes ≡ length b.ops
  pub own : f.own ≡ last_of b.counts

pub tables_eq : (t u : BookTables)
    → t.labels ≡ u.labels
    → t.lens ≡ u.lens
    → t.kinds ≡ u.kinds
    → t.firsts ≡ u.firsts
    → t.counts ≡ u.counts
    → t.ops ≡ u.ops
    → t.nums ≡ u.nums
    → t ≡ u
tables_eq t u a b c d e f g =
    ap (λ (x : List ℕ). columns x t.lens t.kinds t.firsts t.counts t.ops t.nums) a
    ∙ ap (λ (x : List ℕ). columns u.labels x t.kinds t.firsts t.counts t.ops t.nums) b
    ∙ ap (λ (x : List ℕ). columns u.labels u.lens x t.firsts t.counts t.ops t.nums) c
    ∙ ap (λ (x : List ℕ). columns u.labels u.lens u.kinds x t.counts t.ops t.nums) d
    ∙ ap (λ (x : List ℕ). columns u.labels u.lens u.kinds u.firsts x t.ops t.nums) e
    ∙ ap (λ (x : List ℕ). columns u.labels u.lens u.kinds u.firsts u.counts x t.nums) f
    ∙ ap (λ (x : List ℕ). columns u.labels u.lens u.kinds u.firsts u.counts u.ops x) g

-- ---- an accepted text
accepted_refused : {B : Type 0} {b : Book} {n k : ℕ} → refused n k ≡ accepted b → B
accepted_refused e = let z : ◌≡◌ {A = ℕ} 0 1 = cc in absurd (omega arith)

pub accepted_inj : {b c : Book} → accepted b ≡ accepted c → b ≡ c
accepted_inj e = cc

pub accepted_lines : (text : List ℕ) (b : Book) → read text ≡ accepted b → read_on empty 0 (lines text) ≡ accepted b
unfolding read
accepted_lines text b e = go (leb (length text) 65535) (ended text) e
  where
    go : (p q : Bool) → pick p (pick q (read_on empty 0 (lines text)) (refused 4 0)) (refused 3 0) ≡ accepted b → read_on empty 0 (lines text) ≡ accepted b
    go true true e = e
    go true false e = accepted_refused e
    go false true e = accepted_refused e
    go false false e = accepted_refused e

pub accepted_ended : (text : List ℕ) (b : Book) → read text ≡ accepted b → ended text ≡ true
unfolding read
accepted_ended text b e = go (leb (length text) 65535) (ended text) refl e
  where
    go : (p q : Bool) → ended text ≡ q → pick p (pick q (read_on empty 0 (lines text)) (refused 4 0)) (refused 3 0) ≡ accepted b → ended text ≡ true
    go true true h e = h
    go true false h e = accepted_refused e
    go false true h e = h
    go false false h e = accepted_refused e

pub accepted_short : (text : List ℕ) (b : Book) → read text ≡ accepted b → length text ≤ 65535
unfolding read
accepted_short text b e = go (leb (length text) 65535) refl e
  where
    go : (p : Bool) → leb (length text) 65535 ≡ p → pick p (pick (ended text) (read_on empty 0 (lines text)) (refused 4 0)) (refused 3 0) ≡ accepted b → length text ≤ 65535
    go true q e = leb-true _ _ q
    go false q e = accepted_refused e

-- no line of it fails a test
pub unless_none : (o : Option Refusal) (k : ℕ) (r : Outcome) (b : Book) → unless o k r ≡ accepted b → (o ≡ none) × (r ≡ accepted b)
unless_none none k r b e = (refl, e)
unless_none (some f) k r b e = accepted_refused e

-- ---- lengths
pub map_long : (xs : List (List ℕ)) → length (map length xs) ≡ length xs
map_long [] = refl
map_long (x ∷ xs) = ap suc (map_long xs)

-- u has the lengths of t
pub record Long (t u : BookTables) : Type 0 where
  pub labels : length u.labels ≡ length t.labels
  pub lens : length u.lens ≡ length t.lens
  pub kinds : length u.kinds ≡ length t.kinds
  pub firsts : length u.firsts ≡ length t.firsts
  pub counts : length u.counts ≡ length t.counts
  pub ops : length u.ops ≡ length t.ops
  pub nums : length u.nums ≡ length t.nums

module _ (b : Book) (t : BookTables) (s : Sound b) (r : Roomy t) where
  pub written_long : Long t (written b t)
  unfolding written
  written_long = record {
    labels = cells_long b.labels t.labels s.short (omega (arith, s.few, r.labels));
    lens = over_long (map length b.labels) t.lens (omega (arith, map_long b.labels, s.few, r.lens));
    kinds = over_long b.kinds t.kinds (omega (arith, s.kinds_long, s.few, r.kinds));
    firsts = over_long b.firsts t.firsts (omega (arith, s.firsts_long, s.few, r.firsts));
    counts = over_long b.counts t.counts (omega (arith, s.counts_long, s.few, r.counts));
    ops = over_long b.ops t.ops (omega (arith, s.less, r.ops));
    nums = over_long b.nums t.nums (omega (arith, s.nums_long, s.less, r.nums));
  }

  -- ---- the room for a line, and the tables after it
  pub room_by : (f : Tally) (c : Content) → Tallied b f → Sane c → Passed b c → RoomFor c (written b t) f
  room_by f (rule l k) a h p = record {
    in_labels = omega (arith, written_long.labels, r.labels);
    in_lens = omega (arith, written_long.lens, r.lens);
    in_kinds = omega (arith, written_long.kinds, r.kinds);
    in_firsts = omega (arith, written_long.firsts, r.firsts);
    in_counts = omega (arith, written_long.counts, r.counts);
    few = omega (arith, a.rules, rules_left b l k p);
    short = label_short l h.label;
  }
  room_by f (node op v) a h p = record {
    in_counts = omega (arith, written_long.counts, r.counts);
    in_ops = omega (arith, written_long.ops, r.ops);
    in_nums = omega (arith, written_long.nums, r.nums);
    begun = omega (arith, a.rules, s.begun (node_inside b op v p));
    few = omega (arith, a.rules, s.few);
    less = omega (arith, a.nodes, (nodes_left b op v p).1);
    own = omega (arith, a.own, (nodes_left b op v p).0);
  }
  room_by f (step u w) a h p = tt
  room_by f (states c) a h p = tt
  room_by f (slot l w) a h p = tt

  module _ (n : ℕ) (f f' : Tally) (t' : BookTables) (a : Tallied b f) where
    -- the tables hold the book with the content added, and the counts are its own
    abbrev After : Content → Type 0
    After c = (t' ≡ written (add n b c) t) × Tallied (add n b c) f'

    rule_after : (l : List ℕ) (k : ℕ) → length l ≤ 32 → Passed b (rule l k) → RuleDone l k (written b t) f t' f' → After (rule l k)
    unfolding written add
    rule_after l k h p d =
        let few : length b.labels < 64 = rules_left b l k p in
        let long : length (map length b.labels) ≡ length b.labels = map_long b.labels in (
          tables_eq t' (written (add n b (rule l k)) t)
              (d.labels_is ∙ cells_snoc b.labels l t.labels f.rules a.rules s.short h (omega (arith, few, r.labels)))
              (d.lens_is
              ∙ over_snoc (map length b.labels) t.lens f.rules (length l) (a.rules ∙ sym long) (omega (arith, few, r.lens))
              ∙ ap (λ (x : List ℕ). over x t.lens) (sym (map_snoc b.labels l)))
              (d.kinds_is ∙ over_snoc b.kinds t.kinds f.rules k (a.rules ∙ sym s.kinds_long) (omega (arith, s.kinds_long, few, r.kinds)))
              (d.firsts_is
              ∙ ap (set (over b.firsts t.firsts) f.rules) a.nodes
              ∙ over_snoc b.firsts t.firsts f.rules (length b.ops) (a.rules ∙ sym s.firsts_long) (omega (arith, s.firsts_long, few, r.firsts)))
              (d.counts_is ∙ over_snoc b.counts t.counts f.rules 0 (a.rules ∙ sym s.counts_long) (omega (arith, s.counts_long, few, r.counts)))
              d.ops_kept
              d.nums_kept,
          record {
            rules = d.rules_is ∙ ap (λ (x : ℕ). x + 1) a.rules ∙ sym (length-append b.labels (l ∷ []));
            nodes = d.nodes_is ∙ a.nodes;
            own = d.own_is ∙ sym (last_snoc b.counts 0);
          },
        )

    node_after : (op v : ℕ) → Passed b (node op v) → NodeDone op v (written b t) f t' f' → After (node op v)
    unfolding written add
    node_after op v p d =
        let less : length b.ops < 1024 = (nodes_left b op v p).1 in
        let begun : 1 ≤ length b.labels = s.begun (node_inside b op v p) in
        let some-count : 1 ≤ length b.counts = omega (arith, s.counts_long) in (
          tables_eq t' (written (add n b (node op v)) t)
              d.labels_kept
              d.lens_kept
              d.kinds_kept
              d.firsts_kept
              (d.counts_is
              ∙ over_bump b.counts t.counts (f.rules - 1) (f.own + 1) some-count (omega (arith, a.rules, s.counts_long)) (ap (λ (x : ℕ). x + 1) a.own))
              (d.ops_is ∙ over_snoc b.ops t.ops f.nodes op a.nodes (omega (arith, less, r.ops)))
              (d.nums_is ∙ over_snoc b.nums t.nums f.nodes v (a.nodes ∙ sym s.nums_long) (omega (arith, s.nums_long, less, r.nums))),
          record {
            rules = d.rules_is ∙ a.rules;
            nodes = d.nodes_is ∙ ap (λ (x : ℕ). x + 1) a.nodes ∙ sym (length-append b.ops (op ∷ []));
            own = d.own_is ∙ ap (λ (x : ℕ). x + 1) a.own ∙ sym (last_bump b.counts some-count);
          },
        )

    step_after : (u w : ℕ) → Kept (written b t) f t' f' → After (step u w)
    unfolding written add
    step_after u w d = (
      d.tables,
      subst (Tallied (add n b (step u w))) (sym d.fill) (record { rules = a.rules; nodes = a.nodes; own = a.own }),
    )

    states_after : (c : ℕ) → Kept (written b t) f t' f' → After (states c)
    unfolding written add
    states_after c d = (
      d.tables,
      subst (Tallied (add n b (states c))) (sym d.fill) (record { rules = a.rules; nodes = a.nodes; own = a.own }),
    )

    slot_after : (l : List ℕ) (w : ℕ) → Kept (written b t) f t' f' → After (slot l w)
    unfolding written add
    slot_after l w d = (
      d.tables,
      subst (Tallied (add n b (slot l w))) (sym d.fill) (record { rules = a.rules; nodes = a.nodes; own = a.own }),
    )

    pub line_after : (c : Content) → Sane c → Passed b c → LeftBy c (written b t) f t' f' → After c
    line_after (rule l k) h p d = rule_after l k (label_short l h.label) p d
    line_after (node op v) h p d = node_after op v p d
    line_after (step u w) h p d = step_after u w d
    line_after (states c) h p d = states_after c d
    line_after (slot l w) h p d = slot_after l w d
