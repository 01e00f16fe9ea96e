-- The pass over the opening lines: a line's slot is stored, and the loop ends with the book's last slot.
use mathlib.Core.Path.{◌≡◌, refl, sym, ap, subst, ◌∙◌}
use mathlib.Core.List.{List, [], ◌∷◌, ◌++◌, append_assoc, append-nil, map}
use mathlib.Core.Logic.{◌⊎◌, inl, inr}
use Prim.Native.Nat.{ℕ, suc, ◌+◌, ◌-◌, ◌≤◌, ◌<◌}
use native.Mathlib.Omega.{arith}
use mir.Syntax.{w64}
use mir.Val.{Fits}
use lib.ListN.{length, take, drop, length-append}
use Rattle.number.proofs.Numbers.{below_or}
use Rattle.line.specs.Text.{lines, Found}
use Rattle.line.specs.Line.{Content, rule, node, step, states, slot, Line, right, parse}
use Rattle.line.specs.Means.{Answer, held, means, LineIs}
use Rattle.line.specs.declared.line.Content as held-type
use Rattle.line.specs.declared.line.Content.TheVariants as contents
use Rattle.std.specs.Prelude.{Ok, Err}
use Rattle.line.specs.declared.line.Fault.{Fault}
use Rattle.line.proofs.Sane.{Sane}
use Rattle.book.specs.Book.{Book, fault, add, add_line, accepted, read_on}
use Rattle.reader.specs.BookTables.{SlotTables, slot_columns, over, cells, slots_written}
use Rattle.reader.specs.Answer.{RoomySlots}
use Rattle.reader.specs.FillingPass.{SlotRoom, SlotDone, SlotRoomFor, SlotsKept, SlotLeftBy, SlotLineRoom, SlotLinePut, SlotsFillable, FilledSlots}
use Rattle.reader.proofs.Sounds.{Passed, PassedLine, passed, sane, label_short, slots_left, Sound}
use Rattle.reader.proofs.Runs.{roomy_slots_is, map_long, accepted_inj, unless_none}
use Rattle.reader.proofs.Fills.{line_right}
use Rattle.reader.proofs.BookSteps.{ends}
use Rattle.reader.proofs.Reaching.{Reach, right_is, reach_first, reach_on, reach_end, next_fits, next_falls, line_passed, passed_as, next_reach}
use Rattle.reader.proofs.Columns.{over_long, over_snoc, cells_snoc, cells_long, map_snoc}

-- ---- a line
module _ (line : List ℕ) (l : Answer) (is : LineIs line l) where
  -- a line with no content leaves everything
  pub slot_none : (u : SlotTables) (k : ℕ) (x : Fault) → l ≡ Err x → SlotLinePut line u k u k
  slot_none u k x h = record { left = λ c e. absurd (line_right line l is x h c e) }

  module _ (x : held-type.Content) (e : l ≡ Ok x) where
    slot_held : parse line ≡ right (held line x)
    unfolding means
    slot_held = sym is.holds ∙ ap (means line) e

    only : (u : SlotTables) (k : ℕ) (u' : SlotTables) (k' : ℕ) → SlotLeftBy (held line x) u k u' k' → SlotLinePut line u k u' k'
    only u k u' k' p = record { left = λ c q. subst (λ (y : Content). SlotLeftBy y u k u' k') (right_is (sym slot_held ∙ q)) p }

    pub slot_other : (u : SlotTables) (k : ℕ) → ((a b d : ℕ) → x ≡ contents.Slot a b d → ⊥) → SlotLinePut line u k u k
    slot_other u k h = only u k u k (go x h)
      where
        go : (m : held-type.Content) → ((a b d : ℕ) → m ≡ contents.Slot a b d → ⊥) → SlotLeftBy (held line m) u k u k
        go (contents.Rule a b c) h = record { tables = refl; count = refl }
        go (contents.Node a b) h = record { tables = refl; count = refl }
        go (contents.Step a b) h = record { tables = refl; count = refl }
        go (contents.States a) h = record { tables = refl; count = refl }
        go (contents.Slot a b c) h = absurd (h a b c refl)

    module _ (start len width : ℕ) (p : x ≡ contents.Slot start len width) where
      module _ (u : SlotTables) (k : ℕ) (rest name : List ℕ) (q : rest ≡ drop start line) (r : name ≡ take len rest) where
        name_held : held line x ≡ slot name width
        name_held = ap (held line) p ∙ ap (λ (y : List ℕ). slot y width) (ap (take len) (sym q) ∙ sym r)

        pub slot_room : SlotLineRoom line u k → SlotRoom name u k
        slot_room m = m.room (slot name width) (slot_held ∙ ap right name_held)

        pub slot_fits : SlotLineRoom line u k → Fits w64 (k + 1)
        slot_fits m = record { fits = omega (arith, (slot_room m).few) }

        pub slot_put : (u' : SlotTables) → SlotDone name width u k u' (k + 1) → SlotLinePut line u k u' (k + 1)
        slot_put u' s = only u k u' (k + 1) (subst (λ (y : Content). SlotLeftBy y u k u' (k + 1)) (sym name_held) s)

-- ---- further lines add slots behind those that stand, names and widths alike
pub record Grown (b c : Book) : Type 0 where
  pub names_more : List (List ℕ)
  pub widths_more : List ℕ
  pub names : c.names ≡ b.names ++ names_more
  pub widths : c.widths ≡ b.widths ++ widths_more
  pub alike : length names_more ≡ length widths_more

pub grown : (b c : Book) (k : ℕ) (ls : List (List ℕ)) → read_on b k ls ≡ accepted c → Grown b c
unfolding read_on add
grown b c k [] e =
    let q : b ≡ c = ends b c k e in
    record {
      names_more = [];
      widths_more = [];
      names = ap (λ (x : Book). x.names) (sym q) ∙ sym (append-nil b.names);
      widths = ap (λ (x : Book). x.widths) (sym q) ∙ sym (append-nil b.widths);
      alike = refl;
    }
grown b c k (l ∷ ls) e =
    let (o, a) = unless_none (fault b (parse l)) k _ c e in
    let p : PassedLine b (parse l) = passed b (parse l) o in
    by p.content (subst (λ (x : Line). read_on (add_line (length l + 1) b x) (k + 1) ls ≡ accepted c) p.is a)
    (λ (d : Book) (x : read_on d (k + 1) ls ≡ accepted c). grown d c (k + 1) ls x)
  where
    by : (q : Content) → read_on (add (length l + 1) b q) (k + 1) ls ≡ accepted c → ((d : Book) → read_on d (k + 1) ls ≡ accepted c → Grown d c) → Grown b c
    by (rule x y) a ih = let g : Grown (add (length l + 1) b (rule x y)) c = ih _ a in record { names_more = g.names_more; widths_more = g.widths_more; names = g.names; widths = g.widths; alike = g.alike }
    by (node x y) a ih = let g : Grown (add (length l + 1) b (node x y)) c = ih _ a in record { names_more = g.names_more; widths_more = g.widths_more; names = g.names; widths = g.widths; alike = g.alike }
    by (step x y) a ih = let g : Grown (add (length l + 1) b (step x y)) c = ih _ a in record { names_more = g.names_more; widths_more = g.widths_more; names = g.names; widths = g.widths; alike = g.alike }
    by (states x) a ih = let g : Grown (add (length l + 1) b (states x)) c = ih _ a in record { names_more = g.names_more; widths_more = g.widths_more; names = g.names; widths = g.widths; alike = g.alike }
    by (slot x y) a ih =
        let g : Grown (add (length l + 1) b (slot x y)) c = ih _ a in
        record {
          names_more = x ∷ g.names_more;
          widths_more = y ∷ g.widths_more;
          names = g.names ∙ append_assoc b.names (x ∷ []) g.names_more;
          widths = g.widths ∙ append_assoc b.widths (y ∷ []) g.widths_more;
          alike = ap suc g.alike;
        }

slots_eq : (u v : SlotTables) → u.names ≡ v.names → u.lens ≡ v.lens → u.widths ≡ v.widths → u ≡ v
slots_eq u v a b c =
    ap (λ (x : List ℕ). slot_columns x u.lens u.widths) a
    ∙ ap (λ (x : List ℕ). slot_columns v.names x u.widths) b
    ∙ ap (λ (x : List ℕ). slot_columns v.names v.lens x) c

same_slots : (b c : Book) (u : SlotTables) → b.names ≡ c.names → b.widths ≡ c.widths → slots_written b u ≡ slots_written c u
unfolding slots_written
same_slots b c u p q =
    slots_eq (slots_written b u) (slots_written c u)
    (ap (λ (x : List (List ℕ)). cells x u.names) p)
    (ap (λ (x : List (List ℕ)). over (map length x) u.lens) p)
    (ap (λ (x : List ℕ). over x u.widths) q)

-- v has the lengths of u
pub record SlotsLong (u v : SlotTables) : Type 0 where
  pub names : length v.names ≡ length u.names
  pub lens : length v.lens ≡ length u.lens
  pub widths : length v.widths ≡ length u.widths

slots_long : (b : Book) (u : SlotTables) → Sound b → RoomySlots u → SlotsLong u (slots_written b u)
unfolding slots_written
slots_long b u s r = record {
  names = cells_long b.names u.names s.names_short (omega (arith, s.slots_few, r.names));
  lens = over_long (map length b.names) u.lens (omega (arith, map_long b.names, s.slots_few, r.lens));
  widths = over_long b.widths u.widths (omega (arith, s.widths_long, s.slots_few, r.widths));
}

-- ---- one line of the loop: the tables hold the book with the content added
module _ (b : Book) (u : SlotTables) (s : Sound b) (r : RoomySlots u) (n k : ℕ) (e : k ≡ length b.names) where
  pub slot_room_by : (c : Content) → Sane c → Passed b c → SlotRoomFor c (slots_written b u) k
  slot_room_by (rule l v) h p = tt
  slot_room_by (node op v) h p = tt
  slot_room_by (step x w) h p = tt
  slot_room_by (states m) h p = tt
  slot_room_by (slot l w) h p =
      let g : SlotsLong u (slots_written b u) = slots_long b u s r in
      record {
        in_names = omega (arith, g.names, r.names);
        in_lens = omega (arith, g.lens, r.lens);
        in_widths = omega (arith, g.widths, r.widths);
        few = omega (arith, slots_left b l w p);
        short = label_short l h.name;
      }

  module _ (u' : SlotTables) (k' : ℕ) where
    abbrev After : Content → Type 0
    After c = (u' ≡ slots_written (add n b c) u) × (k' ≡ length (add n b c).names)

    kept_after : (c : Content) → (add n b c).names ≡ b.names → (add n b c).widths ≡ b.widths → SlotsKept (slots_written b u) k u' k' → After c
    kept_after c p q d = (d.tables ∙ same_slots b (add n b c) u (sym p) (sym q), d.count ∙ e ∙ ap length (sym p))

    pub slot_after : (c : Content) → Sane c → Passed b c → SlotLeftBy c (slots_written b u) k u' k' → After c
    unfolding slots_written add
    slot_after (rule l v) h p d = kept_after (rule l v) refl refl d
    slot_after (node op v) h p d = kept_after (node op v) refl refl d
    slot_after (step x w) h p d = kept_after (step x w) refl refl d
    slot_after (states m) h p d = kept_after (states m) refl refl d
    slot_after (slot l w) h p d =
        let few : length b.names < 32 = slots_left b l w p in
        let long : length (map length b.names) ≡ length b.names = map_long b.names in (
          slots_eq u' (slots_written (add n b (slot l w)) u)
              (d.names_is ∙ cells_snoc b.names l u.names k e s.names_short (label_short l h.name) (omega (arith, few, r.names)))
              (d.lens_is
              ∙ over_snoc (map length b.names) u.lens k (length l) (e ∙ sym long) (omega (arith, few, r.lens))
              ∙ ap (λ (x : List ℕ). over x u.lens) (sym (map_snoc b.names l)))
              (d.widths_is ∙ over_snoc b.widths u.widths k w (e ∙ sym s.widths_long) (omega (arith, s.widths_long, few, r.widths))),
          d.count ∙ ap (λ (x : ℕ). x + 1) e ∙ sym (length-append b.names (l ∷ [])),
        )

-- ---- the loop
pub record SlotRun (text : List ℕ) (slots : ℕ) (u₀ u : SlotTables) (k at : ℕ) : Type 0 where
  pub ready : SlotsFillable text slots u₀
  pub reach : Reach text ready.book at
  pub laid : u ≡ slots_written reach.book u₀
  pub long : SlotsLong u₀ u
  pub counted : k ≡ length reach.book.names

pub slots_first : (text : List ℕ) (slots : ℕ) (u : SlotTables) → SlotsFillable text slots u → SlotRun text slots u u 0 0
unfolding slots_written over cells
slots_first text slots u h = record {
  ready = h;
  reach = reach_first text h.book h.is;
  laid = refl;
  long = record { names = refl; lens = refl; widths = refl };
  counted = refl;
}

nil_of : {A : Type 0} (l : List A) → length l ≤ 0 → l ≡ []
nil_of [] h = refl
nil_of (a ∷ r) h = absurd (omega arith)

module _ (text : List ℕ) (slots : ℕ) (u₀ u : SlotTables) (k at : ℕ) (v : SlotRun text slots u₀ u k at) where
  abbrev final : Book
  final = v.ready.book

  abbrev b : Book
  b = v.reach.book

  pub slots_end : slots ≤ k → FilledSlots text u₀ u
  slots_end h =
      let g : Grown b final = grown b final v.reach.line (lines (drop at text)) (reach_on text final at v.reach) in
      let none_more : g.names_more ≡ [] = nil_of g.names_more (omega (arith, v.ready.many, v.counted, ap length g.names, length-append b.names g.names_more)) in
      let no-widths : g.widths_more ≡ [] = nil_of g.widths_more (omega (arith, ap length none_more, g.alike)) in
      let p : b.names ≡ final.names = sym (g.names ∙ ap (λ (x : List (List ℕ)). b.names ++ x) none_more ∙ append-nil b.names) in
      let q : b.widths ≡ final.widths = sym (g.widths ∙ ap (λ (x : List ℕ). b.widths ++ x) no-widths ∙ append-nil b.widths) in
      record { is = λ c x. v.laid ∙ same_slots b final u₀ p q ∙ ap (λ (y : Book). slots_written y u₀) (accepted_inj (sym v.ready.is ∙ x)) }

  pub slots_inside : k < slots → at < length text
  slots_inside h = go (below_or at (length text))
    where
      go : ◌⊎◌ (at < length text) (length text ≤ at) → at < length text
      go (inl j) = j
      go (inr j) = absurd (omega (arith, ap (λ (x : Book). length x.names) (reach_end text final at v.reach j), v.ready.many, v.counted))

  pub slots_past : k < slots → at ≤ length text
  slots_past h = omega (arith, slots_inside h)

  module _ (rest : List ℕ) (n : ℕ) (h : k < slots) (e : rest ≡ drop at text) (g : Found 10 rest n) where
    pub slots_at : Fits w64 (at + (n + 1))
    slots_at = next_fits text final at v.reach rest n (slots_inside h) e g

    pub slots_falls : length text - (at + (n + 1)) < length text - at
    slots_falls = next_falls text final at v.reach rest n (slots_inside h) e g

    module _ (first : List ℕ) (e' : first ≡ take n rest) where
      abbrev passed_line : PassedLine b (parse first)
      passed_line = line_passed text final at v.reach rest n (slots_inside h) e g first e'

      pub slots_room : SlotLineRoom first u k
      slots_room = record {
        room = λ c q.
            subst (λ (x : SlotTables). SlotRoomFor c x k) (sym v.laid)
            (slot_room_by b u₀ v.reach.sound (roomy_slots_is u₀ v.ready.room) 0 k v.counted c (sane first c q)
            (passed_as text final at v.reach rest n (slots_inside h) e g first e' c q));
      }

      pub slots_next : (u' : SlotTables) (k' : ℕ) → SlotLinePut first u k u' k' → SlotRun text slots u₀ u' k' (at + (n + 1))
      slots_next u' k' p =
          let c : Content = passed_line.content in
          let q : parse first ≡ right c = passed_line.is in
          let r : Reach text final (at + (n + 1)) = next_reach text final at v.reach rest n (slots_inside h) e g first e' in
          let roomy : RoomySlots u₀ = roomy_slots_is u₀ v.ready.room in
          let left : SlotLeftBy c (slots_written b u₀) k u' k' = subst (λ (z : SlotTables). SlotLeftBy c z k u' k') v.laid (p.left c q) in
          let (x, y) = slot_after b u₀ v.reach.sound roomy (n + 1) k v.counted u' k' c (sane first c q) passed_line.passed left in
          record { ready = v.ready; reach = r; laid = x; long = subst (SlotsLong u₀) (sym x) (slots_long r.book u₀ r.sound roomy); counted = y }
