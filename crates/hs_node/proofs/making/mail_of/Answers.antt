use Rattle.std.proofs.Common.{◌≤◌, arith}
use Rattle.hs_base.specs.declared.limits.TheConstants.{MAX_SIZE}
use Rattle.hs_settings.specs.declared.setting.ServiceSetting.TheVariants as settings
use Rattle.hs_node.proofs.making.mail_of.Goals as goal

pub overflow_add-pages : goal.overflow_add-pages
overflow_add-pages c =
    let few : c.args.settings.now.size ≤ MAX_SIZE = (c.requires.each settings.Size).1 in
    omega (arith, few)
