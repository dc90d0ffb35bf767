mod Playing
