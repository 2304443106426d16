-- What holds of each item of a list, by the module of the crates above.
pub use Rattle.gl_lists.proofs.Each.{by_cond, each_to, each_both, each_append, each_left, each_right, each_take, each_drop, each_filter, each_passes, each_map, filter_all, each_true}
