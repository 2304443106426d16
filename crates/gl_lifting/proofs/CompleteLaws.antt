-- A list that passes the test by tried maps is the complete list.
use Rattle.std.proofs.Common.{◌≡◌, List, true}
use Rattle.std.specs.List.{AllZip}
use Rattle.gl_match.specs.Graph.{Circuit, Pattern}
use Rattle.gl_match.specs.LegalTests.{all_zip}
use Rattle.gl_match.specs.Listing.{Instance, Listed}
use Rattle.gl_match.proofs.Says.{all_zip_says}
use Rattle.gl_base.proofs.TriedLaws.{listed_by}
use Rattle.gl_lifting.specs.TriedHistories.{tried_maps, is_complete}
use Rattle.gl_lifting.proofs.GrownLaws.{in_tried}

pub lists_are : (c : Circuit) (patterns : List Pattern) (lists : List (List Instance)) → all_zip (is_complete c) patterns lists ≡ true → AllZip (Listed c) patterns lists
lists_are c patterns lists e = all_zip_says (is_complete c) (Listed c) (λ p items. listed_by c p (tried_maps c p) (in_tried c p) items) patterns lists e
