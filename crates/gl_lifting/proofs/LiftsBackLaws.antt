-- The lift theorem: all links of each lawful history of bytes within its limits.
use Rattle.gl_base.specs.Rounds.{cards_of}
use Rattle.gl_lifting.specs.Runs.{run_of}
use Rattle.gl_lifting.specs.Lifted.{LiftsBack}
use Rattle.gl_lifting.specs.Chain.{LinksHold}
use Rattle.gl_lifting.specs.FewerLinks.{FewerLinksHold}
use Rattle.gl_lifting.proofs.OriginLaws.{devices_once, composites_once}
use Rattle.gl_lifting.proofs.NamedLaws.{variants_found}
use Rattle.gl_lifting.proofs.ReadBytesLaws.{read_libraries}
use Rattle.gl_lifting.proofs.FewerLinkLaws.{links_hold}
use Rattle.gl_lifting.proofs.LinkLaws.{lifts_back}
use Rattle.gl_lifting.proofs.SideLaws.{few_composites, some_net, all_suit}
use Rattle.gl_lifting.proofs.FourthLinkLaws.{as_many, lifted_is_flat}
use Rattle.gl_lifting.proofs.NamedCompositeLaws.{named}
use Rattle.gl_lifting.proofs.FifthLinkOfLaws.{renamed}

-- links 1 to 5 and the side facts
pub fewer_links : FewerLinksHold
fewer_links deck_bytes library_bytes o flat library h stem map report is within_limits =
    let run = run_of flat library o.keep in
    let suited = all_suit deck_bytes library_bytes o flat library h stem is in
    record {
      devices_once = devices_once run h is.lawful;
      composites_once = composites_once run h is.lawful;
      variants_found = variants_found (cards_of flat) run h (read_libraries library_bytes library is.library_is).0.subs_differ is.lawful;
      lifted_is_flat = lifted_is_flat deck_bytes library_bytes o flat library h stem is suited map report within_limits;
      renamed_is_original = renamed deck_bytes library_bytes o flat library h stem is suited;
      some_net = some_net deck_bytes library_bytes o flat library h stem is;
      few = few_composites deck_bytes library_bytes o flat library h stem is;
      named = named deck_bytes library_bytes o flat library h stem is suited map report within_limits;
      as_many = as_many deck_bytes library_bytes o flat library h stem is suited;
    }

-- all links
pub all_links : LinksHold
all_links = links_hold fewer_links

-- so what was lifted can be restored
pub theorem : LiftsBack
theorem = lifts_back all_links
