mod ThreadLines
mod Units
