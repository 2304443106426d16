-- How long a title is, and what is behind it.
use Rattle.std.proofs.Common.{◌≡◌, ◌≤◌, ◌+◌, ℕ, List, length, eqb, Bool, Option, Some, None, Result, Err, refl, sym, subst, arith}
use Rattle.std.specs.List.{before_first, position_or_len}
use Rattle.std.proofs.lemmas.List.{length-drop, length-take}
use Rattle.std.proofs.lemmas.Option.{same_Some}
use Rattle.gl_fault.specs.Refusals.{◌>>=◌, or_else, IsRefusal}
use Rattle.gl_text.specs.LogicalLines.{Fault, title_of, after_title}
use Rattle.gl_text.proofs.Trims.{end_shorter}
use Rattle.gl_deck.specs.declared.fault.DeckFault.{DeckFault}
use Rattle.gl_deck.specs.Refusals.{Gives, MustRefuse, Refuses, fault_of}

before_few : (p : ℕ → Bool) (xs : List ℕ) → length (before_first p xs) ≤ length xs
before_few p xs = let cut = length-take (position_or_len p xs) xs in omega arith

pub title_few : (bytes : List ℕ) → length (title_of bytes) ≤ length bytes
title_few bytes =
    let a = end_shorter (λ b. eqb b 13) (before_first (λ b. eqb b 10) bytes) in
    let b = before_few (λ b. eqb b 10) bytes in
    omega arith

pub behind_few : (bytes : List ℕ) → length (after_title bytes) ≤ length bytes
behind_few bytes = let cut = length-drop (position_or_len (λ b. eqb b 10) bytes + 1) bytes in omega arith

-- ---- what must be refused

-- a refusal that is passed on
pub still_must : (V W : Type 0) (told : DeckFault) (o : Option Fault) → MustRefuse {V = V} (Err told) o → MustRefuse {V = W} (Err told) o
still_must V W told None h = tt
still_must V W told (Some f) h = h

-- ---- a title that is refused, or not

pub read_on : {A V : Type 0} (r : Result V DeckFault) (o : Option Fault) (x : A) (k : A → Result V Fault) → Refuses None o → Gives r (k x) → Gives r (or_else o x >>= k)
read_on r None x k e h = h
read_on r (Some f) x k e h = absurd cc

pub not_refused : {V : Type 0} (r : Result V DeckFault) (o : Option Fault) → Refuses None o → MustRefuse r o
not_refused r None e = tt
not_refused r (Some f) e = absurd cc

refusal_by : {A V : Type 0} (told : Option Fault) (f : Fault) (x : A) (k : A → Result V Fault) → told ≡ Some f → IsRefusal told (or_else (Some f) x >>= k)
refusal_by {V = V} told f x k e = subst (λ (o : Option Fault). IsRefusal {V = V} o (Err f)) (sym e) refl

pub stopped : {A V : Type 0} (told : DeckFault) (o : Option Fault) (x : A) (k : A → Result V Fault) → Refuses (Some told) o → Gives {V = V} (Err told) (or_else o x >>= k)
stopped told None x k e = absurd cc
stopped told (Some f) x k e = refusal_by (fault_of told) f x k (same_Some (fault_of told) (Some f) e)

pub is_refused : (V : Type 0) (told : DeckFault) (o : Option Fault) → Refuses (Some told) o → MustRefuse {V = V} (Err told) o
is_refused V told None e = tt
is_refused V told (Some f) e = same_Some (fault_of told) (Some f) e
