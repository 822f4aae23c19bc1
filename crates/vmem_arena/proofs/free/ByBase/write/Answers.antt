use Rattle.std.proofs.Common.{sym, ap, ◌∙◌}
use Rattle.std.specs.Option.{option_copied_mut}
use Rattle.vmem_arena.specs.Tag.{range_of, ranges_of}
use Rattle.vmem_arena.specs.ByBase.{written}
use Rattle.vmem_arena.specs.declared.free.Tag.{Tag}
use Rattle.vmem_arena.specs.declared.free.ByBase.TheInside.{Inside}
use Rattle.vmem_arena.proofs.Bases.{ranges_of-set_value, set_value_none}
use Rattle.vmem_arena.proofs.free.ByBase.write.Goals as goal
use Rattle.vmem_arena.proofs.free.ByBase.write.Goals.{in-Some, in_default}

pub returns : goal.returns
returns c =
    let k = c.args.range.base in
    let es = c.self.inside.tags.entries in
    let seen = ap (written c.args.range) c.self.view_is in
    elim c.match-get_mut.branch [
      | in-Some w ↦
          let e = ap (λ (i : Inside). ranges_of i.tags.entries) w.self-inside-is in
          let h = ap ranges_of (c.get_mut.follows.holds w.of.result).0 in
          let g = ap (λ (v : Tag). written (range_of (k, v)) (ranges_of es)) w.of.ensures in
          e ∙ h ∙ ranges_of-set_value k w.of.result es ∙ g ∙ seen
      | in_default w ↦
          let e = ap (λ (i : Inside). ranges_of i.tags.entries) w.self-inside-is in
          let v : Tag = record { size = c.args.range.size; taken = c.args.range.taken; span = c.args.range.span } in
          let none = sym c.get_mut.ensures.value ∙ ap option_copied_mut w.in_default.is in
          let h = ap (λ m. ranges_of m.entries) c.get_mut.follows.holds-at-none in
          e ∙ h ∙ ap ranges_of (sym (set_value_none k v es none)) ∙ ranges_of-set_value k v es ∙ seen
    ]
