use Rattle.std.proofs.Common.{◌≡◌, [], length, Ok, Err, Result, sym, ap, ◌∙◌, subst}
use Rattle.std.specs.Result.{MatchResult}
use Rattle.queue.specs.Meaning.{Meaning}
use Rattle.walks.specs.Hall.{Hall}
use Rattle.model.specs.State.{closed}
use Rattle.model.specs.declared.Phase.TheVariants.{Laying}
use Rattle.job.specs.View.{state_of}
use Rattle.listing.specs.Listing.{listing}
use Rattle.runs.specs.Lists.{Run, start}
use Rattle.intake.specs.Sheets.{layings, Takes, Exactly, Refuses, Continues}
use Rattle.maker.specs.Replies.{Lists}
use Rattle.maker.specs.Tables.{by_time, Tabled, cells}
use Rattle.maker.proofs.answer.Goals as goal

-- no queue yet
unqueued : Meaning
unqueued = record { waits = []; floor = 0; band = 0 }

-- what `map_err` left a value was one
was_ok : {T D : Type 0} (E : Type 0) (r : Result T D) (x : T) → MatchResult r (λ y. ◌≡◌ {A = Result T E} (Ok x) (Ok y)) (λ _. ⊥) → r ≡ Ok x
was_ok E (Ok y) x is = let e : y ≡ x = cc in ap Ok e
was_ok E (Err e) x is = absurd is

pub make_table-requires : goal.make_table-requires
make_table-requires c =
    let ok = was_ok _ c.take_sheet.result c.in_ok-permit.permit c.in_ok-permit.ensures.cases in
    let took = subst (λ r. Takes c.args.sheet.now r (state_of c.take_sheet.new.job)) ok c.take_sheet.ensures.cases in
    let run = subst (λ s. Run [] s unqueued by_time) (sym c.in_ok-job.ensures) (start unqueued by_time) in (
      took.0,
      took.1.valid,
      took.2,
      layings (length (state_of c.take_sheet.new.job).hall.legs) [],
      unqueued,
      by_time,
      subst (λ r. Continues [] unqueued by_time r (state_of c.take_sheet.new.job)) ok (c.take_sheet.ensures.keeps [] unqueued by_time run),
    )

pub returns : goal.returns
returns c =
    let ok = was_ok _ c.take_sheet.result c.in_ok-permit.permit c.in_ok-permit.ensures.cases in
    let took = subst (λ r. Takes c.args.sheet.now r (state_of c.take_sheet.new.job)) ok c.take_sheet.ensures.cases in
    let value = cells (state_of c.make_table.new.job) in
    let table = c.in_ok-make_table.ensures in
    let lists : (h : Hall) → state_of c.take_sheet.new.job ≡ closed Laying h → Lists h (Ok c.in_ok-listed.field-0) =
    λ h is.
    let hall = ap (λ s. s.hall) is in (
      value,
      subst (λ k. Tabled by_time k value) hall table.value,
      c.in_ok-listed.ensures.made ∙ ap (λ k. listing k.points value) (table.same ∙ hall),
    ) in
    record {
      made = (took.0, took.1, lists took.0 took.2);
      bound = λ h obeys. lists h (subst (λ r. Exactly h r (state_of c.take_sheet.new.job)) ok (c.take_sheet.ensures.bound h obeys));
      refused = λ f due. subst (λ r. Refuses f r) ok (c.take_sheet.ensures.refused f due);
    }
