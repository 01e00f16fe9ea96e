-- Demand 3, as one claim about anything that keeps a monitor in its memory and is handed one event after the other, as a program its calls.
--     Machine   what an event asks for and is lent; the calls that it was, the step that it reports, and the memory afterwards
--     Tells     what each event of a list reports, and what the memory says after each first part of the list
--     Demand    the whole claim: a rule that compiles, from its fresh monitor on
-- Alarms and culprits are read from a record of truths alone (Alarm.antt, Culprit.antt), temporal logic stands in Logic.antt, plain rules in
-- Plain.antt, lists of calls in Calls.antt, and what a state says of the steps so far in Meaning.antt.
use Rattle.std.specs.Prelude.{List, [], ◌∷◌, ◌++◌, ◌↔◌, ◌≡◌, ℕ, ◌≤◌, ◌<◌}
use Rattle.std.proofs.Math.Option.{Option, some}
use Rattle.terms.specs.Limits as limits
use Rattle.formula.specs.Formula.{Formula}
use Rattle.monitor.specs.Mon.{Mon}
use Rattle.meaning.specs.Alarm.{Record, Alarm, First}
use Rattle.meaning.specs.Calls.{Call, accepted, AcceptedAt, Below, InOrder, Over, record_of, step_count}
use Rattle.meaning.specs.Logic.{Fails}
use Rattle.meaning.specs.Meaning.{Sound, NodeSound}
use Rattle.meaning.specs.Plain.{Plain}
use Rattle.meaning.specs.State.{State, EachNode, EachObligation}

pub record Machine (Memory Event : Type 0) : Type 1 where
  -- the steps that an event asks for, with their truths: one, or many
  pub asks : Event → List Call
  -- the tables that it is lent hold the compiled rule, and they have room
  pub Own : Event → Mon → Type 0
  pub Roomy : Event → Type 0
  -- the calls that it was, refused or accepted; the step that it reports, if it reports; the memory afterwards
  pub calls : Event → Memory → List Call
  pub reports : Event → Memory → Option ℕ
  pub run : Event → Memory → Memory

module _ {Memory Event : Type 0} (k : Machine Memory Event) where
  -- each event gets the memory as the last one left it
  unfoldable pub run_all : Memory → List Event → Memory
  run_all mem [] = mem
  run_all mem (e ∷ es) = run_all (k.run e mem) es

  unfoldable pub calls_of : Memory → List Event → List Call
  calls_of mem [] = []
  calls_of mem (e ∷ es) = k.calls e mem ++ calls_of (k.run e mem) es

  -- an event of which a call is accepted goes over the rule's own table
  abbrev pub Fair : Mon → Event → Memory → Type 0
  Fair m e mem = 1 ≤ step_count (k.calls e mem) → k.Own e m

  unfoldable pub AllFair : Mon → Memory → List Event → Type 0
  AllFair m mem [] = Unit {0}
  AllFair m mem (e ∷ es) = Fair m e mem × AllFair m (k.run e mem) es

  -- lent enough, over tables that hold the rule, at steps below 2^63
  pub record Lent (m : Mon) (e : Event) : Type 0 where
    pub own : k.Own e m
    pub roomy : k.Roomy e
    pub below : Below (k.asks e)

  -- the memory reads as a state in which every mark and culprit after n steps of the record is right
  pub record Keeps (m : Mon) (Carries : Memory → State m → Type 0) (rec : Record) (n : ℕ) (mem : Memory) : Type 0 where
    pub state : State m
    pub reads : Carries mem state
    pub obligations : EachObligation (Sound rec n) m state
    pub nodes : EachNode (NodeSound rec n) m state

  pub record Tells (m : Mon) (Carries : Memory → State m → Type 0) (rec : Record) (mem : Memory) (es : List Event) : Type 0 where
    -- an event reports s exactly when its call at s is accepted and the alarm holds at s and at no earlier step
    pub reports : (before : List Event) (e : Event) (rest : List Event) → es ≡ before ++ e ∷ rest →
        (s : ℕ) → (k.reports e (run_all mem before) ≡ some s) ↔ (AcceptedAt s (k.calls e (run_all mem before)) × First (Alarm m rec) s)
    -- after the list, and after each first part of it
    pub after : (before rest : List Event) → es ≡ before ++ rest →
        Keeps m Carries rec (step_count (calls_of mem before)) (run_all mem before)

  -- a plain rule over an endless record
  pub record PlainTells (f : Formula) (m : Mon) (rec : Record) (mem : Memory) : Type 0 where
    -- it is false at its step 0 exactly when the alarm ever holds
    pub false_at_0 : Fails f rec 0 ↔ ((s : ℕ) × Alarm m rec s)
    -- an event over the record whose steps go on from those accepted before it, and among which is the first alarm's, is accepted and reports it
    pub at_first : (s : ℕ) → First (Alarm m rec) s → (es : List Event) → AllFair m mem es → (e : Event) → Lent m e →
        InOrder 0 (calls_of mem es ++ k.asks e) → Over rec (calls_of mem es ++ k.asks e) → AcceptedAt s (k.asks e) →
        (k.calls e (run_all mem es) ≡ k.asks e) × (k.reports e (run_all mem es) ≡ some s)

  -- the rule f, whose nodes m are, from the memory of a fresh monitor on
  pub record Demand (f : Formula) (m : Mon) (Carries : Memory → State m → Type 0) (mem : Memory) : Type 0 where
    -- any list of events, refused ones anywhere and over any tables, the accepted ones over the rule's own table at 0, 1, 2 and on
    pub tells : (es : List Event) → AllFair m mem es → InOrder 0 (calls_of mem es) → Tells m Carries (record_of (calls_of mem es)) mem es
    -- at every place of a list, an event that is lent enough is accepted, all that it asks for
    pub accepts : (es : List Event) → AllFair m mem es → (e : Event) → Lent m e → k.calls e (run_all mem es) ≡ k.asks e
    -- there is such an event for every step below 2^63 and all truths
    pub lends : (s w : ℕ) → s < limits.steps → (e : Event) × Lent m e × (k.asks e ≡ accepted s w ∷ [])
    pub plain : Plain f → (rec : Record) → PlainTells f m rec mem
