use Rattle.gl_lib.proofs.RailLaws.{rails_inserted, rails_sound, rails_few}
use Rattle.gl_lib.proofs.rails.run_rails.Goals as goal

pub returns : goal.returns
returns c =
    let deck = c.args.deck_globals.now in
    let library = c.args.library_globals.now in
    let rails = rails_inserted _ _ _ c.in_ok-rails.rails.items deck library c.new-names.ensures.empty c.in_ok-add_names.ensures.added c.in_ok-add_names-2.ensures.added c.in_ok-rails.ensures.names in
    record { rails = rails; differ = rails_sound _ deck library rails; few = rails_few _ deck library rails }
