use Rattle.scons_declare.proofs.declaring.declare_rules.Goals as goal

pub returns-in-Install-clause-fault : goal.returns-in-Install-clause-fault
returns-in-Install-clause-fault c =
    rw c.in-Install.is (rw (c.plain_site-site.ensures, c.as_slice-in-Install.ensures, c.as_slice-in-Install-2.ensures) at c.install.ensures.fault)

pub returns-in-InstallAs-clause-fault : goal.returns-in-InstallAs-clause-fault
returns-in-InstallAs-clause-fault c =
    rw c.in-InstallAs.is (rw (c.plain_site-site-in-InstallAs.ensures, c.as_slice-in-InstallAs.ensures, c.as_slice-in-InstallAs-2.ensures) at c.install_as.ensures.fault)
