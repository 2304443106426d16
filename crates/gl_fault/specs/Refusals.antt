-- Refusals of any kind: the first of some, what is given unless there is one, and what an answer of the code means.
-- The code's refusals have a meaning each, but for want of memory, which means none and may come in place of any answer.
use Rattle.std.specs.Prelude.{◌≡◌, Bool, List, [], ◌∷◌, Option, Some, None, option_map, Result, Ok, Err, ⊤, if◌then◌else◌}

-- ---- first refusals

-- the first refusal among some
abbrev pub first_some : {F : Type 0} → List (Option F) → Option F
first_some [] = None
first_some (None ∷ os) = first_some os
first_some (Some f ∷ os) = Some f

-- a refusal, where a test is met
abbrev pub when : {F : Type 0} → Bool → F → Option F
when test f = if test then Some f else None

-- what is given, unless it is refused
abbrev pub or_else : {F A : Type 0} → Option F → A → Result A F
or_else None x = Ok x
or_else (Some f) x = Err f

-- what follows an accepted value; the first refusal stays
infixl 10 ◌>>=◌
abbrev pub ◌>>=◌ : {F A B : Type 0} → Result A F → (A → Result B F) → Result B F
(Ok x) >>= f = f x
(Err e) >>= f = Err e

-- ---- what an answer means

-- the refusal that was given is this one; want of memory may come in place of any answer
abbrev pub IsRefusal : {F V : Type 0} → Option F → Result V F → Type 0
IsRefusal None wanted = ⊤
IsRefusal (Some fault) wanted = wanted ≡ Err fault

-- the refusal that was given is the one that there is; want of memory may come in place of any answer
abbrev pub IsFound : {F : Type 0} → Option F → Option F → Type 0
IsFound None found = ⊤
IsFound (Some fault) found = found ≡ Some fault

-- there is a refusal exactly where one is wanted, and it means that one
abbrev pub Refuses : {E F : Type 0} → (E → Option F) → Option E → Option F → Type 0
Refuses meaning given wanted = option_map meaning given ≡ option_map (λ f. Some f) wanted

-- a value that is seen as the wanted one, exactly where one is wanted; else the wanted refusal
abbrev pub GivesAs : {E F V W : Type 0} → (E → Option F) → (V → W) → Result V E → Result W F → Type 0
GivesAs meaning seen (Ok v) wanted = wanted ≡ Ok (seen v)
GivesAs meaning seen (Err fault) wanted = IsRefusal (meaning fault) wanted

-- the wanted value, exactly where one is wanted; else the wanted refusal
abbrev pub Gives : {E F V : Type 0} → (E → Option F) → Result V E → Result V F → Type 0
Gives meaning = GivesAs meaning (λ v. v)

-- what is made of the wanted value, exactly where there is one; else the wanted refusal
abbrev pub GivesOf : {E F V W : Type 0} → (E → Option F) → (V → W → Type 0) → Result V E → Result W F → Type 0
GivesOf {W = W} meaning IsMade (Ok v) wanted = (w : W) × (wanted ≡ Ok w) × IsMade v w
GivesOf meaning IsMade (Err fault) wanted = IsRefusal (meaning fault) wanted
