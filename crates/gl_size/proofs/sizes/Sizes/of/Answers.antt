use Rattle.std.proofs.Common.{◌≡◌, ◌∙◌, List, ℕ, Bool, ap}
use Rattle.gl_text.specs.Flattening.{DEPTH}
use Rattle.gl_size.specs.declared.counted.Counted.TheVariants as counted
use Rattle.gl_size.specs.Excesses.{Sizes}
use Rattle.gl_size.specs.Counts.{counts_of}
use Rattle.gl_size.specs.Chains.{chains_of}
use Rattle.gl_size.proofs.sizes.Sizes.of.Goals as goal

abbrev sizes_by : List ℕ → List ℕ → List Bool → Sizes
sizes_by cards devices deep = record { cards = cards; devices = devices; deep = deep }

same_sizes : (a b c d : List ℕ) (e f : List Bool) → a ≡ b → c ≡ d → e ≡ f → sizes_by a c e ≡ sizes_by b d f
same_sizes a b c d e f x y z = ap (λ k. sizes_by k c e) x ∙ ap (λ k. sizes_by b k e) y ∙ ap (λ k. sizes_by b d k) z

pub returns : goal.returns
returns c =
    let subs = c.args.subs.now in
    let differ = c.in_ok-tallies.ensures.names_differ in
    let cards = c.in_ok-counts.ensures.counts subs (c.deref.ensures.value ∙ c.in_ok-tallies.ensures.tallies) in
    let devices = c.in_ok-counts-2.ensures.counts subs (c.deref-2.ensures.value ∙ c.in_ok-tallies.ensures.tallies) in
    let deep = c.in_ok-deep.ensures.marks subs differ (c.deref-3.ensures.value ∙ c.in_ok-tallies.ensures.tallies) in
    record { of = record { sizes = same_sizes c.in_ok-counts.field-0.items (counts_of counted.Cards subs DEPTH) c.in_ok-counts-2.field-0.items (counts_of counted.Devices subs DEPTH) c.in_ok-deep.field-0.items (chains_of subs DEPTH) cards devices deep; names_differ = differ } }
