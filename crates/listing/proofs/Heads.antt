-- The lines of the rules.
use mathlib.Core.List.{List}
use mathlib.Core.Path.{◌≡◌, sym, ap, subst, ◌∙◌}
use Prim.Native.Nat.{ℕ, ◌+◌, ◌*◌, ◌^◌, ◌≤◌, ◌<◌}
use native.Mathlib.Omega.{arith}
use native.Mathlib.Numerals.{add-one}
use lib.ListN.{length, get_or, take, drop}
use Rattle.reader.specs.BookTables.{BookTables, columns}
use Rattle.text.specs.Tape.{Tape, Wrote}
use Rattle.text.proofs.Tapes.{as_text, nothing, then}
use Rattle.listing_line.specs.declared.rule.Compiled.{Compiled}
use Rattle.std.specs.Prelude.{Result}
use Rattle.listing_rules.specs.Rules.{Rule, bits_of, first_bit_of, like_of, first_below, compiling_of}
use Rattle.listing_rules.specs.Tabled.{Tabled}
use Rattle.listing_rules.specs.Made.{FilledRules}
use Rattle.listing_rules.specs.Answers.{Placeable, Places, ToldRule}
use Rattle.listing_head.specs.Head.{upto, section_text, rule_text, rules_text}
use Rattle.listing_section.specs.Section as section
use Rattle.listing.specs.LentLists.{Lent, lists, HoldsRules, BookReady, Readied, RuleReady, RuleListed, RulesListed}
use Rattle.listing.specs.Whole.{KnownBook, HeadListed}

-- in lists that were lent one by one
pub places_lent :
    {kinds nodes nfirsts ncounts refusals starts bits starts' bits' : List ℕ} {n base : ℕ} → Places kinds nodes nfirsts ncounts refusals n base starts bits
    → starts' ≡ starts → bits' ≡ bits → Places kinds nodes nfirsts ncounts refusals n base starts' bits'
places_lent p e f = rw (e, f) p

module _ (ops nums labels lens kinds firsts counts nodes nfirsts ncounts refusals starts bits : List ℕ) where
  abbrev tables : BookTables
  tables = columns labels lens kinds firsts counts ops nums

  abbrev lent : Lent
  lent = lists tables nodes nfirsts ncounts refusals starts bits

  module _ (n r : ℕ) (c : Result Compiled ℕ) where
    listable :
        (rest label : List ℕ) (base : ℕ) (R : ℕ → Rule) → BookReady base lent R n → r < n → c ≡ compiling_of base R n r → rest ≡ drop (32 * r) labels
        → label ≡ take (get_or lens r 0) rest
        → section.Listable ops nums nodes label (get_or kinds r 0) (get_or firsts r 0) (get_or counts r 0) (get_or nfirsts r 0) (get_or ncounts r 0) c (R r)
    unfolding compiling_of
    listable rest label base R k h g e p = record {
      in_ops = omega (arith, k.holds.held.ops_long);
      in_nums = omega (arith, k.holds.held.nums_long);
      label_is = sym (p ∙ ap (take (get_or lens r 0)) e ∙ k.holds.labelled.label r h);
      kind_is = k.holds.held.kind r h;
      first_is = k.holds.held.first r h;
      formula_is = k.holds.held.formula r h;
      compiled = k.tabled.compiled r h;
      first_bit = first_bit_of base R n r;
      bits = bits_of (R r);
      alike = first_below (like_of R r) r;
      gave = g;
    }

    pub section_ready :
        (rest label : List ℕ) → RuleReady lent n r c → rest ≡ drop (32 * r) labels → label ≡ take (get_or lens r 0) rest
        → section.Readied ops nums nodes label (get_or kinds r 0) (get_or firsts r 0) (get_or counts r 0) (get_or nfirsts r 0) (get_or ncounts r 0) c
    section_ready rest label h e p = record { rule = h.readied.rules r; is = listable rest label h.readied.base h.readied.rules h.readied.is h.low h.gave e p }

    pub section_listed :
        (rest label : List ℕ) (a b : Tape) → RuleReady lent n r c → rest ≡ drop (32 * r) labels → label ≡ take (get_or lens r 0) rest
        → section.RulePut ops nums nodes label r (get_or kinds r 0) (get_or firsts r 0) (get_or counts r 0) (get_or nfirsts r 0) (get_or ncounts r 0) c a b
        → RuleListed lent n r c a b
    unfolding rule_text
    section_listed rest label a b h e p w = record {
      is = λ base R k g. subst (λ (x : Result Compiled ℕ). Wrote a (section_text r (R r) x) b) g (w.is (R r) (listable rest label base R k h.low g e p));
    }

  -- ---- the loop: the lines of r rules are written
  pub record Headed (n r : ℕ) (a b : Tape) : Type 0 where
    pub high : r ≤ n
    pub wrote : (base : ℕ) (R : ℕ → Rule) → BookReady base lent R n → Wrote a (upto (rule_text base R n) r) b

  module _ (n : ℕ) where
    pub headed_first : (a : Tape) → Headed n 0 a a
    unfolding upto
    headed_first a = record { high = omega arith; wrote = λ base R k. nothing a }

    pub rule_asked : (r : ℕ) (c : Result Compiled ℕ) → Readied lent n → r < n → ToldRule ops nums firsts counts nodes nfirsts ncounts refusals starts bits r c → RuleReady lent n r c
    rule_asked r c k h t = record { readied = k; low = h; gave = t.is k.base k.rules n k.is.tabled k.is.placed h }

    pub headed_next :
        (r : ℕ) (c : Result Compiled ℕ) (a b d : Tape) → Headed n r a b → r < n
        → ToldRule ops nums firsts counts nodes nfirsts ncounts refusals starts bits r c → RuleListed lent n r c b d → Headed n (r + 1) a d
    unfolding upto
    headed_next r c a b d s h t w = record {
      high = omega arith;
      wrote = λ base R k. as_text a d (ap (upto (rule_text base R n)) (add-one r)) (then (s.wrote base R k) (w.is base R k (t.is base R n k.tabled k.placed h)));
    }

    pub headed_all : (r : ℕ) (a b : Tape) → Headed n r a b → n ≤ r → RulesListed lent n a b
    unfolding rules_text
    headed_all r a b s h = record {
      is = λ base R k. as_text a b (ap (upto (rule_text base R n)) (let e : n ≡ r = omega (arith, s.high) in e)) (s.wrote base R k);
    }

  -- ---- the rules are compiled and placed
  module _ (n base : ℕ) where
    pub placeable :
        KnownBook tables n → FilledRules ops nums kinds firsts counts nodes nfirsts ncounts refusals n → base < 2 ^ 63 → 64 ≤ length starts → 64 ≤ length bits
        → Placeable kinds nodes nfirsts ncounts refusals n base starts bits
    placeable k f l s b = record { low = l; ops = ops; nums = nums; firsts = firsts; counts = counts; rules = k.rules; held = k.is.held; tabled = f.is k.rules k.is.held; in_starts = s; in_bits = b }

    ready :
        (R : ℕ → Rule) → HoldsRules tables R n → FilledRules ops nums kinds firsts counts nodes nfirsts ncounts refusals n
        → Places kinds nodes nfirsts ncounts refusals n base starts bits → BookReady base lent R n
    ready R k f p =
        let t : Tabled ops nums firsts counts nodes nfirsts ncounts refusals R n = f.is R k.held in
        record { holds = k; tabled = t; placed = p.is ops nums firsts counts R k.held t }

    pub readied :
        KnownBook tables n → FilledRules ops nums kinds firsts counts nodes nfirsts ncounts refusals n
        → Places kinds nodes nfirsts ncounts refusals n base starts bits → Readied lent n
    readied k f p = record { base = base; rules = k.rules; is = ready k.rules k.is f p }

    pub head_listed :
        (a b : Tape) → FilledRules ops nums kinds firsts counts nodes nfirsts ncounts refusals n
        → Places kinds nodes nfirsts ncounts refusals n base starts bits → RulesListed lent n a b → HeadListed tables n base nodes nfirsts ncounts refusals a b
    head_listed a b f p w = record { text = λ R k. w.is base R (ready R k f p); tabled = λ R k. f.is R k.held }
