-- What lifting gives, or why nothing, of a flat deck; and the same of a flat deck with its devices at the top.
use Rattle.std.proofs.Common.{◌≡◌, ◌∙◌, ℕ, List, Option, None, Some, Ok, sym, subst}
use Rattle.std.specs.Prelude.{Result, Err, IfOk, IfErr, IsErrAnd, option_map}
use Rattle.gl_fault.specs.Refusals.{IsRefusal, or_else}
use Rattle.gl_text.specs.LogicalLines.{Fault}
use Rattle.gl_text.specs.Flattening.{Flat}
use Rattle.gl_base.specs.Libraries.{Library}
use Rattle.gl_base.specs.Rounds.{source_of}
use Rattle.gl_base.specs.Keeping.{unknown_keep}
use Rattle.gl_lifting.specs.Runs.{run_of}
use Rattle.gl_lifting.specs.OutLimits.{OutLimit}
use Rattle.gl_lifting.specs.LiftJobs.{Texts}
use Rattle.gl_flat.specs.PlainFlats.{plain}
use Rattle.gl_flat.specs.Refusals as flats
use Rattle.gl_lib.specs.Kept.{unknown_of}
use Rattle.gl_limit.specs.Limits.{limit_value}
use Rattle.gl_lift.specs.Lifting.{LiftCause, of_flat, of_keep, unless_unknown}
use Rattle.gl_lift.specs.Counted.{HaveCounted, IsCountedLimit, TellsLimit}
use Rattle.gl_lift.specs.Refusals.{of_limit_fault, IsNotLifted, AreLifted}
use Rattle.gl_lift.specs.declared.fault.LimitFault.{LimitFault}
use Rattle.gl_lift.specs.declared.fault.LimitFault.TheVariants as limits
use Rattle.gl_lift.specs.declared.fault.LiftFault.{LiftFault}
use Rattle.gl_lift.specs.declared.fault.LiftFault.TheVariants as faults
use Rattle.gl_lift.proofs.Kept.{flat_known}
use Rattle.gl_lift.proofs.WrittenLaws.{known_flat}

-- ---- of a flat deck

-- a limit that is counted, where the flat deck is the wanted one
limit_not_lifted : (keep : List (List ℕ)) (library : Library) (wanted : Result Flat LiftCause) (flat : Flat) (fault : LimitFault) → wanted ≡ Ok flat → TellsLimit (IsCountedLimit keep library flat) fault → IsNotLifted keep library wanted (of_limit_fault fault)
limit_not_lifted keep library wanted flat (limits.Passed limit) is h = (flat, is, h)
limit_not_lifted keep library wanted flat limits.Memory is h = tt

-- a fault that is passed on tells the same
pub limit_on : {V : Type 0} (keep : List (List ℕ)) (library : Library) (wanted : Result Flat LiftCause) (flat : Flat) (r : Result V LiftFault) (fault : LimitFault) → wanted ≡ Ok flat → IsErrAnd r (λ e. e ≡ of_limit_fault fault) → TellsLimit (IsCountedLimit keep library flat) fault → IfErr r (IsNotLifted keep library wanted)
limit_on keep library wanted flat (Ok value) fault is e h = absurd e
limit_on keep library wanted flat (Err g) fault is e h = subst (IsNotLifted keep library wanted) (sym e) (limit_not_lifted keep library wanted flat fault is h)

-- ---- with its devices at the top

-- what is counted of it is counted of the flat deck
abbrev pub CountedStays : Type 0
CountedStays = (keep : List (List ℕ)) (flat : Flat) (library : Library) (limit : Option OutLimit) (texts : Texts) → HaveCounted (run_of (plain flat) library keep) (plain flat) limit texts → HaveCounted (run_of flat library keep) flat limit texts

-- so is the first unknown name
abbrev pub UnknownStays : Type 0
UnknownStays = (keep : List (List ℕ)) (flat : Flat) (library : Library) → unknown_keep keep (source_of (plain flat) library) ≡ unknown_keep keep (source_of flat library)

refusal_stays : (cause : Option LiftCause) (unknown : Option (List ℕ)) (f g : Flat) → IsRefusal cause (or_else (option_map of_keep unknown) f) → IsRefusal cause (or_else (option_map of_keep unknown) g)
refusal_stays None unknown f g h = tt
refusal_stays (Some cause) None f g h = absurd cc
refusal_stays (Some cause) (Some name) f g h = h

module _ (counted : CountedStays) (unknown : UnknownStays) (keep : List (List ℕ)) (library : Library) (flat : Flat) (wanted : Result Flat Fault) (is : wanted ≡ Ok flat) where
  -- the flat deck that is lifted
  lifted_is : (g : Flat) → unless_unknown keep library (Ok (plain flat)) ≡ Ok g → (unless_unknown keep library wanted ≡ Ok flat) × (plain flat ≡ g)
  lifted_is g h =
      let k = known_flat keep library (Ok (plain flat)) g h in
      let same : plain flat ≡ g = cc k.0 in
      let known = sym (unknown keep flat library) ∙ subst (λ (f : Flat). unknown_keep keep (source_of f library) ≡ None) (sym same) k.1 in
      (flat_known keep library flat wanted is known, same)

  plain_lifted : (texts : Texts) → AreLifted keep library (unless_unknown keep library (Ok (plain flat))) texts → AreLifted keep library (unless_unknown keep library wanted) texts
  plain_lifted texts h =
      let l = lifted_is h.0 h.1 in
      (flat, l.0, counted keep flat library None texts (subst (λ (f : Flat). HaveCounted (run_of f library keep) f None texts) (sym l.1) h.2))

  cause_stays : (cause : Option LiftCause) → IsRefusal cause (unless_unknown keep library (Ok (plain flat))) → IsRefusal cause (unless_unknown keep library wanted)
  cause_stays cause h =
      let moved = refusal_stays cause (unknown_keep keep (source_of (plain flat) library)) (plain flat) flat h in
      let same = subst (λ (u : Option (List ℕ)). IsRefusal cause (or_else (option_map of_keep u) flat)) (unknown keep flat library) moved in
      subst (λ (w : Result Flat Fault). IsRefusal cause (unless_unknown keep library w)) (sym is) same

  plain_refused : (fault : LiftFault) → IsNotLifted keep library (unless_unknown keep library (Ok (plain flat))) fault → IsNotLifted keep library (unless_unknown keep library wanted) fault
  plain_refused (faults.Flat fault) h = cause_stays (option_map of_flat (flats.fault_of fault)) h
  plain_refused (faults.Keep fault) h = cause_stays (option_map of_keep (unknown_of fault)) h
  plain_refused (faults.Limit limit) h =
      let l = lifted_is h.0 h.1 in
      (flat, l.0, (h.2.0, counted keep flat library (Some (limit_value limit)) h.2.0 (subst (λ (f : Flat). HaveCounted (run_of f library keep) f (Some (limit_value limit)) h.2.0) (sym l.1) h.2.1)))
  plain_refused faults.Memory h = tt

  -- of an answer
  pub lifted_stays : (result : Result Texts LiftFault) → IfOk result (AreLifted keep library (unless_unknown keep library (Ok (plain flat)))) → IfOk result (AreLifted keep library (unless_unknown keep library wanted))
  lifted_stays (Ok texts) h = plain_lifted texts h
  lifted_stays (Err fault) h = tt

  pub refused_stays : (result : Result Texts LiftFault) → IfErr result (IsNotLifted keep library (unless_unknown keep library (Ok (plain flat)))) → IfErr result (IsNotLifted keep library (unless_unknown keep library wanted))
  refused_stays (Ok texts) h = tt
  refused_stays (Err fault) h = plain_refused fault h
