-- What refuses the bytes of a deck or a library, by what their layers answer.
use Rattle.std.proofs.Common.{◌≡◌, ℕ, List, Option, None, Some, true, ap, sym, ◌∙◌, inl}
use Rattle.std.specs.Prelude.{Result, Ok, Err}
use Rattle.gl_fault.specs.Refusals.{IsRefusal, ◌>>=◌}
use Rattle.gl_text.specs.LogicalLines.{Fault}
use Rattle.gl_text.specs.Decks.{Deck, read_deck}
use Rattle.gl_text.specs.Flattening.{Flat, flatten, flat_text, flat_of, flat_job}
use Rattle.gl_text.specs.PlainFlats.{plain}
use Rattle.gl_job.specs.declared.kind.Kind.TheVariants as kinds
use Rattle.gl_job.specs.Texts.{End}
use Rattle.gl_job.specs.Points.{refusal_end, Refuses}
use Rattle.gl_job.proofs.Points.{end_refuses}
use Rattle.gl_deck.specs.Texts.{fault_text}
use Rattle.gl_run.specs.Restoring.{IsPlainOf}

-- ---- decks

flat_job_of : (top : Option (List ℕ)) (bytes : List ℕ) (deck : Deck) → read_deck true bytes ≡ Ok deck → flat_job top bytes ≡ (flatten deck deck.globals top >>= λ f. Ok (flat_text f))
flat_job_of top bytes deck is = ap (λ (r : Result Deck Fault). (r >>= λ (d : Deck). flatten d d.globals top) >>= λ (f : Flat). Ok (flat_text f)) is

-- the deck is refused as it is read
pub read_refused : (top : Option (List ℕ)) (bytes : List ℕ) (given : Option Fault) → IsRefusal given (read_deck true bytes) → IsRefusal given (flat_job top bytes)
read_refused top bytes None h = tt
read_refused top bytes (Some fault) h = ap (λ (r : Result Deck Fault). (r >>= λ (d : Deck). flatten d d.globals top) >>= λ (f : Flat). Ok (flat_text f)) h

-- the same of an end that tells it
pub read_refuses : (top : Option (List ℕ)) (bytes : List ℕ) (end : End) → Refuses kinds.Deck fault_text (read_deck true bytes) end → Refuses kinds.Deck fault_text (flat_job top bytes) end
read_refuses top bytes end h = by (read_deck true bytes) h where
  by : (r : Result Deck Fault) → Refuses kinds.Deck fault_text r end → Refuses kinds.Deck fault_text ((r >>= λ (d : Deck). flatten d d.globals top) >>= λ (f : Flat). Ok (flat_text f)) end
  by (Err fault) t = t
  by (Ok deck) memory = later (flatten deck deck.globals top >>= λ (f : Flat). Ok (flat_text f)) where
    later : (r : Result (List ℕ) Fault) → Refuses kinds.Deck fault_text r end
    later (Ok text) = memory
    later (Err fault) = inl memory

-- the deck is refused as it is flattened
pub flatten_refused : (top : Option (List ℕ)) (bytes : List ℕ) (deck : Deck) (given : Option Fault) → read_deck true bytes ≡ Ok deck → IsRefusal given (flatten deck deck.globals top) → Refuses kinds.Deck fault_text (flat_job top bytes) (refusal_end kinds.Deck fault_text given)
flatten_refused top bytes deck given is h = end_refuses kinds.Deck fault_text given (flat_job top bytes) (by given h) where
  by : (g : Option Fault) → IsRefusal g (flatten deck deck.globals top) → IsRefusal g (flat_job top bytes)
  by None t = tt
  by (Some fault) t = flat_job_of top bytes deck is ∙ ap (λ (r : Result Flat Fault). r >>= λ (f : Flat). Ok (flat_text f)) t

-- the flat text
pub flat_text_is : (top : Option (List ℕ)) (bytes : List ℕ) (deck : Deck) (flat : Flat) (text : List ℕ) → read_deck true bytes ≡ Ok deck → flatten deck deck.globals top ≡ Ok flat → text ≡ flat_text flat → flat_job top bytes ≡ Ok text
flat_text_is top bytes deck flat text is flattened text_is =
    flat_job_of top bytes deck is ∙ (ap (λ (r : Result Flat Fault). r >>= λ (f : Flat). Ok (flat_text f)) flattened ∙ ap Ok (sym text_is))

-- ---- flat decks

-- the deck is refused as it is read
pub unread_flat : (top : Option (List ℕ)) (bytes : List ℕ) (end : End) → Refuses kinds.Deck fault_text (read_deck true bytes) end → Refuses kinds.Deck fault_text (flat_of top bytes) end
unread_flat top bytes end h = by (read_deck true bytes) h where
  by : (r : Result Deck Fault) → Refuses kinds.Deck fault_text r end → Refuses kinds.Deck fault_text (r >>= λ (d : Deck). flatten d d.globals top) end
  by (Err fault) t = t
  by (Ok deck) memory = later (flatten deck deck.globals top) where
    later : (r : Result Flat Fault) → Refuses kinds.Deck fault_text r end
    later (Ok flat) = memory
    later (Err fault) = inl memory

flat_of_deck : (top : Option (List ℕ)) (bytes : List ℕ) (deck : Deck) → read_deck true bytes ≡ Ok deck → flat_of top bytes ≡ flatten deck deck.globals top
flat_of_deck top bytes deck is = ap (λ (r : Result Deck Fault). r >>= λ (d : Deck). flatten d d.globals top) is

-- the deck is refused as it is flattened
pub unflattened : (top : Option (List ℕ)) (bytes : List ℕ) (deck : Deck) (given : Option Fault) → read_deck true bytes ≡ Ok deck → IsRefusal given (flatten deck deck.globals top) → Refuses kinds.Deck fault_text (flat_of top bytes) (refusal_end kinds.Deck fault_text given)
unflattened top bytes deck given is h = end_refuses kinds.Deck fault_text given (flat_of top bytes) (by given h) where
  by : (g : Option Fault) → IsRefusal g (flatten deck deck.globals top) → IsRefusal g (flat_of top bytes)
  by None t = tt
  by (Some fault) t = flat_of_deck top bytes deck is ∙ t

-- the flat deck
pub flat_is : (top : Option (List ℕ)) (bytes : List ℕ) (deck : Deck) (flat value : Flat) → read_deck true bytes ≡ Ok deck → flatten deck deck.globals top ≡ Ok flat → value ≡ plain flat → IsPlainOf (flat_of top bytes) value
flat_is top bytes deck flat value is flattened value_is = record { flat = flat; flat_is = flat_of_deck top bytes deck is ∙ flattened; value_is = value_is }
