-- What an enquiry holds: when it is opened, after a step, after a list of calls. Assumes nothing.
use Rattle.std.specs.Prelude.{◌≡◌, ℕ, ◌/◌, ◌%◌, ◌^◌, ◌⊎◌, Bool, cond, List, [], ◌==◌, Result, MatchResult}
use Rattle.sets.specs.declared.parts.Parts.{Parts}
use Rattle.sets.specs.Members.{Has, Holds}
use Rattle.lists.specs.Held.{held}
use Rattle.refusals.specs.declared.Refusal.{Refusal}
use Rattle.refusals.specs.Refusals.{Answer, Answers, numbered}
use Rattle.checking.specs.declared.call.Call.{Call}
use Rattle.checking.specs.declared.call.Step.{Step}
use Rattle.checking.specs.declared.enquiry.Enquiry.{Enquiry}
use Rattle.checking.specs.declared.wishes.Wishes.{Wishes}
use Rattle.checking.specs.Calls.{Wish, free, wanted, barred, State, refusal, stepped, after}

-- whether the set has the part
abbrev pub has : Parts → ℕ → Bool
has s p = (s.bits / 2 ^ p) % 2 == 1

-- two sets of parts, as the wish for each part
abbrev pub wish_in : Parts → Parts → ℕ → Wish
wish_in wants bars p = cond (has wants p) wanted (cond (has bars p) barred free)

abbrev pub wish_of : Wishes → ℕ → Wish
wish_of w = wish_in w.wanted w.barred

-- wishes as two sets: just the wanted parts, and just the barred ones
pub record Wishing (wish : ℕ → Wish) (wants bars : Parts) : Type 0 where
  pub wanting : Holds wants (λ p. wish p ≡ wanted)
  pub barring : Holds bars (λ p. wish p ≡ barred)

-- one set of wishes with a part more: refused with 42 where the other set has it
abbrev pub Joined : Parts → Parts → ℕ → Result Parts Refusal → Type 0
Joined set other part r =
    MatchResult r (λ s. (Has other part → ⊥) × Holds s (λ p. Has set p ⊎ (p ≡ part))) (λ e. Has other part × (numbered e ≡ (42, part)))

-- a state of wishes alone
abbrev pub only : (ℕ → Wish) → State
only wish = record { own = []; wish = wish }

-- a step on wishes alone
pub record Rewished (step : Step) (was is : Wishes) (r : Answer) : Type 0 where
  pub wish : wish_of is ≡ (stepped (only (wish_of was)) step).wish
  pub answer : Answers (refusal (only (wish_of was)) step) r

module _ {B M : Type 0} where
  abbrev pub state_of : Enquiry B M → State
  state_of e = record { own = held e.own; wish = wish_of e.wishes }

  -- an enquiry over this book and this measure, in this state
  pub record Holding (b : B) (m : M) (s : State) (e : Enquiry B M) : Type 0 where
    pub book : e.book ≡ b
    pub measure : e.measure ≡ m
    pub state : state_of e ≡ s

  -- one step: book and measure stay, the state is as the step makes it, and the answer is "done" or the refusal
  pub record Stepped (step : Step) (was is : Enquiry B M) (r : Answer) : Type 0 where
    pub holding : Holding was.book was.measure (stepped (state_of was) step) is
    pub answer : Answers (refusal (state_of was) step) r

  -- what an enquiry that was opened over this book and this measure holds after these calls
  pub record Reached (b : B) (m : M) (calls : List Call) (e : Enquiry B M) : Type 0 where
    pub holding : Holding b m (after calls) e
    pub wishes : Wishing (after calls).wish e.wishes.wanted e.wishes.barred
