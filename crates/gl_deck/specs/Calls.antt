-- X cards as far as their calls go, and what refuses them.
use Rattle.std.specs.Prelude.{ℕ, ◌<◌, ◌^◌, ◌==◌, ◌&&◌, not, List, [], ◌∷◌, length, map, Option, Some, None, All}
use Rattle.gl_text.specs.LogicalLines.{Fault, unknown_subckt, wrong_node_count, recursive}
use Rattle.gl_fault.specs.Refusals.{first_some, when}
use Rattle.gl_text.specs.Decks.{Scope, Sub, is_inside, find_sub, reaches}

-- an X card: its line, where it stands, the name that it calls, and how many nodes it has
pub record Site : Type 0 where
  pub line : ℕ
  pub scope : Scope
  pub sub : List ℕ
  pub nodes : ℕ

-- a subcircuit that the file lacks; a number of nodes other than that of the ports; a call that leads back to the own subcircuit
abbrev pub known_fault : List Sub → Site → Option Sub → Option Fault
known_fault subs s None = Some (unknown_subckt s.line)
known_fault subs s (Some t) = first_some (when (not (s.nodes == length t.head.ports)) (wrong_node_count s.line s.nodes (length t.head.ports))
    ∷ when (is_inside s.scope && reaches subs t s.scope.name) (recursive s.line) ∷ [])

-- the lowest refusal of an X card by its call
abbrev pub site_fault : List Sub → Site → Option Fault
site_fault subs s = known_fault subs s (find_sub subs s.sub)

-- the first of these X cards, by their calls
abbrev pub first_by_call : List Sub → List Site → Option Fault
first_by_call subs sites = first_some (map (site_fault subs) sites)

-- each subcircuit has as many ports as a count holds
abbrev pub PortsFit : List Sub → Type 0
PortsFit subs = All (λ (s : Sub). length s.head.ports < 2 ^ 32) subs
