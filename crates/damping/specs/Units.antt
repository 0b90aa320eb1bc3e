-- The flow units: the factor per cubic foot per second by code, in the order of the Rust's FlowUnits. Definitions only.
use Rattle.std.specs.Prelude.{ℕ, List, [], ◌∷◌, get_or, Float}
use Rattle.std.specs.Float.{nan}
use Rattle.constants.specs.Constants.{one, gpm_per_cfs, mgd_per_cfs, imgd_per_cfs, afd_per_cfs, lps_per_cfs, lpm_per_cfs, mld_per_cfs, cms_per_cfs, cmh_per_cfs, cmd_per_cfs}

-- CFS, GPM, MGD, IMGD, AFD, LPS, LPM, MLD, CMS, CMH, CMD
unfoldable pub factors : List Float
factors =
    one
    ∷ gpm_per_cfs
    ∷ mgd_per_cfs
    ∷ imgd_per_cfs
    ∷ afd_per_cfs
    ∷ lps_per_cfs
    ∷ lpm_per_cfs
    ∷ mld_per_cfs
    ∷ cms_per_cfs
    ∷ cmh_per_cfs
    ∷ cmd_per_cfs
    ∷ []

-- a code past the table, which no sheet has, gives NaN: nothing converges
unfoldable pub factor_of : ℕ → Float
factor_of code = get_or factors code nan
