use Rattle.std.proofs.Common.{◌<◌, ◌^◌, ◌∙◌, ℕ, List, length, sym, ap, subst}
use Rattle.gl_text.specs.Decks.{once}
use Rattle.gl_flat.specs.SeenNames.{Seen, net_names}
use Rattle.gl_flat.proofs.seen.Seen.into_names.Goals as goal

pub of_set-requires : goal.of_set-requires
of_set-requires c =
    let keys = c.in_ok-set.ensures.keys ∙ ap once c.in_ok-keys.ensures.keys ∙ ap (λ (s : Seen). once (net_names s)) c.self.view_is in
    record { few = subst (λ (ks : List (List ℕ)). length ks < 2 ^ 32) (sym keys) c.requires.few }

pub returns : goal.returns
returns c = record { names = c.of_set.ensures.names ∙ c.in_ok-set.ensures.keys ∙ ap once c.in_ok-keys.ensures.keys ∙ ap (λ (s : Seen). once (net_names s)) c.self.view_is }
