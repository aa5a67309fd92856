use Rattle.module_image.proofs.Refusals.{image_short, image_magic, image_version, image_field, image_long}
use Rattle.module_image.proofs.laws.refusals_by_the_bytes.Goals as goal

pub returns-clause-short : goal.returns-clause-short
returns-clause-short c = image_short

pub returns-clause-magic : goal.returns-clause-magic
returns-clause-magic c = image_magic

pub returns-clause-version : goal.returns-clause-version
returns-clause-version c = image_version

pub returns-clause-field : goal.returns-clause-field
returns-clause-field c = image_field

pub returns-clause-long : goal.returns-clause-long
returns-clause-long c = image_long
