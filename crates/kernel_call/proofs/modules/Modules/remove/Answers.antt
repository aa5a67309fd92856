use Rattle.std.proofs.Common.{◌≡◌, ◌==◌, not, rules, subst, sym, List}
use Rattle.std.proofs.lemmas.Fn.{filter_same}
use Rattle.func_link.specs.Links.{without}
use Rattle.domain_model.specs.State.{Loaded}
use Rattle.domain_model.specs.Modules.{without_domain}
use Rattle.kernel_call.specs.Sound.{AreSeated}
use Rattle.kernel_call.specs.Tables.{AreTabled}
use Rattle.kernel_call.proofs.Rooms.{seated_without}
use Rattle.kernel_call.proofs.Tables.{tabled_rest}
use Rattle.kernel_call.proofs.modules.Modules.remove.Goals as goal

pub invariant_of-self : goal.invariant_of-self
invariant_of-self c =
    let rest : c.retain.new.self.items ≡ without_domain c.args.domain c.self.inside.list.items = filter_same _ (λ (m : Loaded). not (m.domain == c.args.domain)) _ (λ x b f' called. search rules) _ _ c.retain.ensures.filtered in
    let tabled = tabled_rest c.self.inside.list.items c.args.domain c.self.inside.links c.self.inside.jumps c.clear.new.self c.self.invariant.tabled c.clear.ensures in
    record {
      room = search rules;
      seated = subst AreSeated (sym rest) (seated_without c.self.inside.list.items c.args.domain c.self.invariant.seated);
      tabled = rw c.module_out.ensures.seats (subst (λ (ms : List Loaded). AreTabled ms (without c.args.domain c.self.inside.links) c.clear.new.self) (sym rest) tabled);
    }

pub returns : goal.returns
returns c = rw (← c.self.view_is) (filter_same _ (λ (m : Loaded). not (m.domain == c.args.domain)) _ (λ x b f' called. search rules) _ _ c.retain.ensures.filtered)
