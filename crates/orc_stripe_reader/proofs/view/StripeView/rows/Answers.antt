use Rattle.std.proofs.Common.{◌≢◌, inr, ◌∙◌, sym}
use Rattle.orc_directory.specs.declared.fault.StripeFault.TheVariants.{Failed}
use Rattle.orc_stripe_reader.proofs.view.StripeView.rows.Goals as goal

pub returns-in-Err-rest-clause-fault : goal.returns-in-Err-rest-clause-fault
returns-in-Err-rest-clause-fault c = λ memory.
    let v = c.self.inside in
    let going : c.in-Err-rest.fault ≢ Failed = λ e. let k = sym c.in-Ok.ensures.going ∙ c.in-Err-rest.ensures.first e in cc in
    rw (← c.self.view_is) (record {
      none = λ rows h. memory (c.in-Err-rest.ensures.only rows (c.in-Ok.ensures.only rows (rw (← c.self.view_is) (record {
        footer = v.footer;
        has_footer = c.self.invariant;
        spelled = h;
      }))));
      reason = inr (rw (← c.self.view_is) at (c.in-Ok.ensures.meets c.in-Err-rest.fault (c.in-Err-rest.ensures.fault memory going)));
    })
