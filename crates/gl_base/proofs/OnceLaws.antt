-- Lists in which each element stands once, by the module of the crates above.
pub use Rattle.std.proofs.lemmas.List.{get_or_default as any_default}
pub use Rattle.gl_lists.proofs.Filters.{filter_shorter as length_filter, filter_all}
pub use Rattle.gl_lists.proofs.EachOnce.{once_apart, no_more, length_once, first_place, later_place, from_once, same_if, differ_if, there, found, in_once, once_once, once_kept, place_within, place_back, place_at, position_there, position_back, once_by}
